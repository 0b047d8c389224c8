-- The act that a note stands for.
use Rattle.std.specs.String.{string_bytes}
use Rattle.pattern_port.specs.Course.{Act, read, tried}
use Rattle.pattern_memory.specs.declared.note.Note.{Note}
use Rattle.pattern_memory.specs.declared.note.Note.TheVariants.{Read, Tried}

abbrev pub act_of : Note → Act
act_of (Read text refused) = read (string_bytes text) refused
act_of (Tried pattern text) = tried (string_bytes pattern) (string_bytes text)
