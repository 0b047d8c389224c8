-- The laws of sequences of calls.
use Rattle.std.specs.Prelude.{◌≡◌, ℕ, ◌+◌, ◌≤◌, Bool, true, false, ◌++◌}
use Rattle.core_state.specs.core_spec.History.{History}
use Rattle.core_state.specs.declared.state.CoreState.{CoreState}
use Rattle.core_state.specs.Moments.{StandsAmid}
use Rattle.core_state.specs.StandsFor.{AreOfOneRecord, EachImage, history_of}
use Rattle.core_state.specs.Tallies.{tally_of}
use Rattle.core_course.specs.Sight.{Sight, Stood, is_down}
use Rattle.core_course.specs.Courses.{AreOfOneCall, SomeMay, Course, TimeGoesOn, NoMomentIsLeftOut, Passed}
use Rattle.core_course.specs.Work.{Worked}

-- the number of commands that came in, took effect or were discarded
abbrev pub moved : History → ℕ
moved events = let tally = tally_of events in tally.received + tally.applied + tally.discarded

-- One call takes in at most one command, or lets at most one take effect, or discards at most one.
abbrev pub CallsMoveOne : Type 0
CallsMoveOne = (events : History) → AreOfOneCall events → moved events ≤ 1

abbrev pub StretchesJoin : {D K : Type 0} → Sight D K → Type 0
StretchesJoin {D} {K} w = (first second : History) (a b c : CoreState D K) → Passed w first a b → Passed w second b c → Passed w (second ++ first) a c

-- sequences join, whatever the test lets them write
abbrev pub CoursesJoin : {D K : Type 0} → Sight D K → Type 0
CoursesJoin {D} {K} w =
    (may : CoreState D K → History → Bool) (a b c : CoreState D K) → Course w (λ core begun. may core begun ≡ true) a b
    → Course w (λ core begun. may core begun ≡ true) b c → Course w (λ core begun. may core begun ≡ true) a c

abbrev pub WorkGoesOn : {D K : Type 0} → Sight D K → Type 0
WorkGoesOn {D} {K} w = (a b c : CoreState D K) → Worked w a b → Worked w b c → Worked w a c

-- After a sequence, the core stands for each history that it stood for, continued.
abbrev pub CoursesStand : {D K : Type 0} → Sight D K → Type 0
CoursesStand {D} {K} w =
    (may : CoreState D K → History → Bool) (old new : CoreState D K) → Course w (λ core begun. may core begun ≡ true) old new → (start : History) → Stood w old start → Stood w new start

-- Over a sequence time doesn't go back, if the core stands for some history.
abbrev pub CoursesTakeTime : {D K : Type 0} → Sight D K → Type 0
CoursesTakeTime {D} {K} w =
    (may : CoreState D K → History → Bool) (old new : CoreState D K) → Course w (λ core begun. may core begun ≡ true) old new → (start : History) → Stood w old start → TimeGoesOn w old new

-- Each moment of a file, from the first core's to the last one's, lies within one of the calls.
abbrev pub CoursesAreWhole : {D K : Type 0} → Sight D K → Type 0
CoursesAreWhole {D} {K} w =
    (may : CoreState D K → History → Bool) (old new : CoreState D K) (course : Course w (λ core begun. may core begun ≡ true) old new) → NoMomentIsLeftOut w old course.stops new

-- After a sequence, each image of the disks stands for the history at the start with a part of the added events. It may also
-- include the events of one record that one of the calls may write.
abbrev pub LastImagesStand : {D K : Type 0} → Sight D K → Type 0
LastImagesStand {D} {K} w =
    (may : CoreState D K → History → Bool) (old new : CoreState D K) (course : Course w (λ core begun. may core begun ≡ true) old new)
    → is_down w old ≡ false → (start : History) → Stood w old start
    → EachImage w.may_leave w.images new
    (StandsAmid old.tables.ttls (λ upto begun. AreOfOneRecord begun × SomeMay (λ core events. may core events ≡ true) old course.stops begun) (history_of old start) (history_of new start))
