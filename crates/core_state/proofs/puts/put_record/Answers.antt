use Rattle.core_state.proofs.puts.put_record.Goals as goal

pub returns-clause-put : goal.returns-clause-put
returns-clause-put g c rec fits =
    let put = c.put.ensures in
    record {
      any_moment = put.any_moment rec fits;
      each = put.each rec fits;
      queued_one = λ ok told. put.queued_one ok told rec fits;
      queued_old = put.queued_old;
      untouched = put.untouched;
      down = put.down;
      again = put.again;
      spent = rw (fits.1) at put.spent;
      grew = rw (fits.1) at put.grew;
      same_size = put.same_size;
      cause = put.cause;
      twice = put.twice;
    }
