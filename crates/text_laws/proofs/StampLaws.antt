-- The laws of stamps, from what is read, what stands there and what is printed.
use Rattle.std.proofs.Common.{◌≡◌, ◌∙◌, ℕ, ℤ, List, Some, ap, sym}
use Rattle.json_machine.specs.text_spec.Stamp.{IsStampOf}
use Rattle.json_machine.specs.text_spec.StampReader.{stamp_of}
use Rattle.text_laws.specs.StampLaws.{StampsAreRead, StampsNameOneMoment, NineDigitsCutNothing, MomentsPrintOneText, PrintedTextsTellTheCutMoment, PrintedTextsAreStamps}
use Rattle.text_laws.proofs.StampReads.{stamp_of-stamp_text}
use Rattle.text_laws.proofs.StampStands.{stamp_of-stands}
use Rattle.text_laws.proofs.StampPrinted.{printed_is_stamp, printed_tells, one_text, nine_digits_cut_nothing}

-- a stamp's text is read as its moment
pub stamp_is_read : (text : List ℕ) (m : ℤ) → IsStampOf text m → stamp_of text ≡ Some m
stamp_is_read text m h =
    ap stamp_of h.text_is ∙ stamp_of-stamp_text h.stamp h.is_stamp ∙ ap (λ n. Some n) (sym h.moment_is)

pub stamps_are_read : StampsAreRead
stamps_are_read text m = (stamp_of-stands text m, stamp_is_read text m)

pub stamps_name_one_moment : StampsNameOneMoment
stamps_name_one_moment text m n a b =
    let both : Some m ≡ Some n = sym (stamp_is_read text m a) ∙ stamp_is_read text n b in
    cc

pub nine_digits : NineDigitsCutNothing
nine_digits = nine_digits_cut_nothing

pub moments_print_one_text : MomentsPrintOneText
moments_print_one_text = one_text

pub printed_texts_tell_the_cut_moment : PrintedTextsTellTheCutMoment
printed_texts_tell_the_cut_moment = printed_tells

pub printed_texts_are_stamps : PrintedTextsAreStamps
printed_texts_are_stamps digits text m some few p from to =
    rw (p.text_is, p.moment_is) (printed_is_stamp digits p.clock p.is_clock some few from to)
