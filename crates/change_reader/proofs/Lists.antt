-- How a loop reads a list, under a short path: an attribute names these lemmas.
pub use Rattle.record_values.proofs.Lists.{none_before, step_read, fail_read, done_read}
