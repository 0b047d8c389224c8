-- Links served, one after the other.
use Rattle.std.proofs.Common.{◌≡◌, ◌∙◌, inl, inr, ℕ, ◌+◌, ◌<◌, ℤ, List, [], ◌∷◌, ◌++◌, length, Option, Some, None, Bool, arith, refl, sym, ap, subst, append_assoc, append-nil}
use Rattle.std.proofs.lemmas.List.{length-append}
use Rattle.http_routes.specs.fleet_rows.declared.command.Command.{Command}
use Rattle.http_routes.specs.fleet_rows.declared.submitted.Submitted.{Submitted}
use Rattle.http_routes.specs.means_spec.OutRows.{OutRows, lines_text}
use Rattle.http_routes.specs.means_spec.World as spec
use Rattle.http_routes.specs.means_spec.World.{World}
use Rattle.http_routes.specs.fleet_tables.Stands.{Stands}
use Rattle.http_routes.specs.history_spec.Trace.{Trace}
use Rattle.http_routes.specs.table_machine.Table.{Table}
use Rattle.http_routes.specs.query_engine.Tables.{world_of}
use Rattle.http_routes.specs.paging_text.Shown.{written_text}
use Rattle.http_routes.specs.http_front.Link.{limited}
use Rattle.http_routes.specs.Course.{Outside}
use Rattle.http_routes.proofs.Prints.{history_served, history_so_far}
use Rattle.front_port.specs.Links.{Given, IsLast}
use Rattle.link_serving.specs.declared.end.ServeEnd.{ServeEnd}
use Rattle.link_serving.specs.declared.end.ServeEnd.TheVariants.{Done, FrontFault}
use Rattle.link_serving.specs.Serving.{FrontSeen, ServesFirst, AreServed, ServesLinks, IsTurn, ServesFront}

module _ {H : Type 0} (Step : Command → Submitted → H → H → Type 0) (w : World) (print : OutRows → List ℕ) (now : ℤ) where
  -- ---- one more

  served_more : (links : List Given) (link : Given) (left mid rest : Option (List (List ℕ))) (old between new : Outside H) → AreServed Step w print now left mid links old between
      → ServesFirst Step w print now mid rest link between new → AreServed Step w print now left rest (links ++ link ∷ []) old new
  served_more [] link left mid rest old between new (same_left, same) first = (
    rest,
    new,
    subst (λ l. ServesFirst Step w print now l rest link old new) same_left (subst (λ o. ServesFirst Step w print now mid rest link o new) same first),
    (refl, refl),
  )
  served_more (x ∷ links) link left mid rest old between new (then, there, served, more) first = (then, there, served, served_more links link then mid rest there between new more first)

  -- a link alone
  first_of : (link : Given) (left rest : Option (List (List ℕ))) (old new : Outside H) → AreServed Step w print now left rest (link ∷ []) old new → ServesFirst Step w print now left rest link old new
  first_of link left rest old new (then, there, first, (same_left, same)) =
      subst (λ l. ServesFirst Step w print now left l link old new) (sym same_left) (subst (λ o. ServesFirst Step w print now left then link old o) (sym same) first)

  pub serves_none : (seen : FrontSeen) (old : Outside H) → ServesLinks Step w print now [] seen seen old old
  serves_none seen old = record { are_served = (refl, refl); given_back = sym (append-nil seen.given_back); handed_out = omega arith }

  module _ (before mid after : FrontSeen) (old between new : Outside H) (links : List Given) (some : ServesLinks Step w print now links before mid old between) where
    pub serves_more : (link : Given) → ServesLinks Step w print now (link ∷ []) mid after between new → ServesLinks Step w print now (links ++ link ∷ []) before after old new
    serves_more link one = record {
      are_served = served_more links link before.left mid.left after.left old between new some.are_served (first_of link mid.left after.left between new one.are_served);
      given_back = one.given_back ∙ (ap (λ (back : List Given). back ++ link ∷ []) some.given_back ∙ append_assoc before.given_back links (link ∷ []));
      handed_out = omega (arith, one.handed_out, some.handed_out, length-append links (link ∷ []));
    }

    serves_still : after ≡ mid → new ≡ between → ServesLinks Step w print now links before after old new
    serves_still still same = subst (λ f. ServesLinks Step w print now links before f old new) (sym still) (subst (λ o. ServesLinks Step w print now links before mid old o) (sym same) some)

    -- the end of a turn
    pub turn_ends : (end : ServeEnd) (n limit : ℕ) → length links ≡ n → n < limit → IsTurn Step w print now (Some end) mid after between new
        → ServesFront Step w print now end limit before after old new
    turn_ends Done n limit is fewer (last, still, same) =
        record { served = links; serves = serves_still still same; ends = (inr (subst IsLast (ap (λ (f : FrontSeen). f.left) (sym still)) last), omega (arith, is, fewer)) }
    turn_ends FrontFault n limit is fewer (still, same) = record { served = links; serves = serves_still still same; ends = omega (arith, is, fewer) }

  pub all_served : (before after : FrontSeen) (old new : Outside H) (links : List Given) (n limit : ℕ) → ServesLinks Step w print now links before after old new → length links ≡ n → n ≡ limit
      → ServesFront Step w print now Done limit before after old new
  all_served before after old new links n limit some is all = record { served = links; serves = some; ends = (inl (is ∙ all), omega (arith, is, all)) }

-- ---- where the tables and the patterns tell the same as at first

module _ {H : Type 0} (Step : Command → Submitted → H → H → Type 0) (w v : World) (same : v ≡ w) (print : OutRows → List ℕ) (now : ℤ) (before mid after : FrontSeen) (old between new : Outside H)
    (links : List Given) (n : ℕ) (number : length links ≡ n) (some : ServesLinks Step w print now links before mid old between)
  where
    pub turn_more : IsTurn Step v print now None mid after between new → (more : List Given) × (length more ≡ n + 1) × ServesLinks Step w print now more before after old new
    turn_more (link, one) = (
      links ++ link ∷ [],
      omega (arith, number, length-append links (link ∷ [])),
      serves_more Step w print now before mid after old between new links some link (subst (λ x. ServesLinks Step x print now (link ∷ []) mid after between new) same one),
    )

    pub turn_last : (end : ServeEnd) (limit : ℕ) → n < limit → IsTurn Step v print now (Some end) mid after between new → ServesFront Step w print now end limit before after old new
    turn_last end limit fewer turn =
        turn_ends Step w print now before mid after old between new links some end n limit number fewer (subst (λ x. IsTurn Step x print now (Some end) mid after between new) same turn)

-- ---- for each history that the tables stand for

module _ {H : Type 0} (Step : Command → Submitted → H → H → Type 0) (table : Table) (history : Trace) (says : List ℕ → List ℕ → Bool) (now : ℤ) (stands : Stands table history) where
  first_stands : (left rest : Option (List (List ℕ))) (link : Given) (old new : Outside H) → ServesFirst Step (world_of table says) written_text now left rest link old new
      → ServesFirst Step (spec.world_of table.ttls history says) lines_text now left rest link old new
  first_stands left rest link old new first = record {
    comes = first.comes;
    held = first.held;
    handed_out = first.handed_out;
    end = first.end;
    ends = first.ends;
    serves = history_served Step table history says now first.end (limited 0 first.comes) old new first.held link.held stands first.serves;
    so_far = λ failed.
        let taken = first.so_far failed in
        (taken.0, history_so_far Step table history says now (limited 0 first.comes) (limited taken.0 link.left) old new first.held link.held stands taken.1);
  }

  served_stands : (links : List Given) (left rest : Option (List (List ℕ))) (old new : Outside H) → AreServed Step (world_of table says) written_text now left rest links old new
      → AreServed Step (spec.world_of table.ttls history says) lines_text now left rest links old new
  served_stands [] left rest old new none = none
  served_stands (link ∷ links) left rest old new (then, between, first, more) =
      (then, between, first_stands left then link old between first, served_stands links then rest between new more)

  pub front_stands : (end : ServeEnd) (limit : ℕ) (before after : FrontSeen) (old new : Outside H) → ServesFront Step (world_of table says) written_text now end limit before after old new
      → ServesFront Step (spec.world_of table.ttls history says) lines_text now end limit before after old new
  front_stands end limit before after old new front = record {
    served = front.served;
    serves = record {
      are_served = served_stands front.served before.left after.left old new front.serves.are_served;
      given_back = front.serves.given_back;
      handed_out = front.serves.handed_out;
    };
    ends = front.ends;
  }

-- ---- one link

module _ {H : Type 0} (Step : Command → Submitted → H → H → Type 0) (w : World) (print : OutRows → List ℕ) (now : ℤ) (before after : FrontSeen) (rest : Option (List (List ℕ))) (out : ℕ)
    (back : List Given) (old new : Outside H) (link : Given)
  where
    -- it was handed out, served, and given back
    pub one_served : ServesFirst Step w print now before.left rest link old new → after.left ≡ rest → out ≡ before.handed_out + 1 → after.handed_out ≡ out → back ≡ before.given_back
        → after.given_back ≡ back ++ link ∷ [] → IsTurn Step w print now None before after old new
    one_served first left_is counted out_is back_is given = (
      link,
      record {
        are_served = (rest, new, first, (left_is, refl));
        given_back = given ∙ ap (λ (b : List Given). b ++ link ∷ []) back_is;
        handed_out = out_is ∙ counted;
      },
    )
