-- The exit status and the line on standard error, for each end of the program.
use Rattle.std.specs.Prelude.{ℕ, List, [], ◌∷◌, ◌++◌, Option, Some, None, codes, decimal}
use Rattle.command_core.specs.core_opening.declared.faults.FileName.{FileName}
use Rattle.command_core.specs.core_opening.declared.faults.FileName.TheVariants.{QueueA, QueueB, StoreA, StoreB}
use Rattle.query_answer.specs.RefusalText.{refusal_text}
use Rattle.calm_commands.specs.declared.status.Status.{Status}
use Rattle.calm_commands.specs.declared.status.Status.TheVariants.{Done, Usage, SpoolBad, ReadFault, WriteFault, QueueFault, StoreDown, Damaged, ListenFault, QueryRefused, Memory, Spent, AlreadyLaid, StoreFault, NoSuch}

abbrev pub status_code : Status → ℕ
status_code Done = 0
status_code Usage = 2
status_code (SpoolBad at) = 3
status_code ReadFault = 4
status_code WriteFault = 5
status_code QueueFault = 6
status_code StoreDown = 7
status_code (Damaged file at) = 8
status_code ListenFault = 9
status_code (QueryRefused why) = 10
status_code Memory = 11
status_code Spent = 12
status_code AlreadyLaid = 13
status_code StoreFault = 14
status_code (NoSuch receipt) = 15

abbrev pub file_word : FileName → List ℕ
file_word QueueA = codes "queue.a"
file_word QueueB = codes "queue.b"
file_word StoreA = codes "store.a"
file_word StoreB = codes "store.b"

abbrev pub damaged_front : FileName → List ℕ
damaged_front file = codes "damaged " ++ file_word file ++ codes " at "

-- the line up to the number or the query's refusal that it may end with
abbrev pub line_front : Status → List ℕ
line_front Done = []
line_front Usage = codes "usage"
line_front (SpoolBad at) = codes "spool bad at "
line_front ReadFault = codes "read fault"
line_front WriteFault = codes "write fault"
line_front QueueFault = codes "queue fault"
line_front StoreDown = codes "store down"
line_front (Damaged file at) = damaged_front file
line_front ListenFault = codes "listen fault"
line_front (QueryRefused why) = codes "query refused: "
line_front Memory = codes "out of memory"
line_front Spent = codes "spent"
line_front AlreadyLaid = codes "already laid"
line_front StoreFault = codes "store fault"
line_front (NoSuch receipt) = codes "no such receipt "

-- the number that the line ends with
abbrev pub line_number : Status → Option ℕ
line_number (SpoolBad at) = Some at
line_number (Damaged file at) = Some at
line_number (NoSuch receipt) = Some receipt
line_number _ = None

abbrev pub number_text : Option ℕ → List ℕ
number_text None = []
number_text (Some n) = decimal n

-- what follows the first part of the line
abbrev pub line_end : Status → List ℕ
line_end (QueryRefused why) = refusal_text why
line_end s = number_text (line_number s)

abbrev pub status_line : Status → List ℕ
status_line s = line_front s ++ line_end s

-- what the program prints to standard error: the line and a line end, and nothing for `Done`
abbrev pub printed_line : Status → List ℕ
printed_line Done = []
printed_line s = status_line s ++ 10 ∷ []
