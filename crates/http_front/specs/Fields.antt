-- The answers of the readers of fields, in the words of the definition.
use Rattle.http_spec.specs.Framing as framing
use Rattle.http_front.specs.declared.fields.Framing.{Framing}
use Rattle.http_front.specs.declared.fields.Framing.TheVariants.{Sized, Refused}

abbrev pub framing_of : Framing → framing.Framing
framing_of (Sized size) = framing.sized size
framing_of (Refused fault) = framing.refused fault
