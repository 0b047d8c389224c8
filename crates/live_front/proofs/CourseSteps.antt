-- One call of a front is one step of its course.
use Rattle.std.proofs.Common.{◌≡◌, ◌∙◌, ℕ, ◌+◌, ◌≤◌, List, [], ◌∷◌, ◌++◌, map, length, Option, refl, sym, ap, subst, arith, append_assoc}
use Rattle.std.proofs.lemmas.List.{map-append}
use Rattle.fleet_ports.specs.Counts.{Counts, Rose}
use Rattle.front_port.specs.Links.{HandsOut, IsLast}
use Rattle.live_front.specs.declared.entry.Passing.{Passing}
use Rattle.live_front.specs.declared.entry.Passing.TheVariants.{Out, Back, Ended, Failed}
use Rattle.live_front.specs.declared.entry.End.{End}
use Rattle.live_front.specs.declared.entry.End.TheVariants as end
use Rattle.live_front.specs.Entries.{links_out, links_back, ends}
use Rattle.live_front.specs.Courses.{FrontSight, IsCalm, AreHandedOut, FrontCourse}
use Rattle.live_front.proofs.EntryLaws.{outs_more, outs_same, backs_more, backs_same, ends_same, ends_first, once_free, once_back, one_longer}

-- 1 for a failure
abbrev failures : List End → ℕ
failures [] = 0
failures (end.Ended ∷ es) = 0
failures (end.Failed ∷ es) = 1

pub no_failure : (es : List End) → es ≡ [] → es ≡ end.Failed ∷ [] → ⊥
no_failure es none is = absurd (let e : 0 ≡ 1 = ap failures (sym none ∙ is) in omega arith)

no_ended : (es : List End) → es ≡ [] → es ≡ end.Ended ∷ [] → ⊥
no_ended es none is = absurd (let e : 0 ≡ 1 = ap (λ l. length l) (sym none ∙ is) in omega arith)

other_end : (es : List End) → es ≡ end.Failed ∷ [] → es ≡ end.Ended ∷ [] → ⊥
other_end es failed ended = absurd (let e : 1 ≡ 0 = ap failures (sym failed ∙ ended) in omega arith)

-- the count stays, and so does what it tells of
same_count : (a b c : ℕ) (P Q : Type 0) → Counts a b P → c ≡ b → (P → Q) → (Q → P) → Counts a c Q
same_count a b c P Q counts is on back = record {
  later = subst (λ n. a ≤ n) (sym is) counts.later;
  cause = λ q. subst (Rose a) (sym is) (counts.cause (back q));
  calm = λ none. is ∙ counts.calm (λ p. none (on p));
}

module _ {F L : Type 0} (w : FrontSight F L) where
  handed_on : (left then rest : Option (List (List ℕ))) (links : List L) (link : L) → AreHandedOut w left links then → HandsOut then rest (w.link link).left (w.link link).held → IsCalm (w.link link)
      → AreHandedOut w left (links ++ link ∷ []) rest
  handed_on left then rest [] link is hands calm = (rest, subst (λ (l : Option (List (List ℕ))). HandsOut l rest (w.link link).left (w.link link).held) is hands, calm, refl)
  handed_on left then rest (x ∷ links) link is hands calm = (is.0, is.1, is.2, handed_on is.0 then rest links link is.3 hands calm)

  module _ (start old new : F) (passed : List (Passing F L)) (c : FrontCourse w start passed old) (listens : w.listens new ≡ w.listens old) where
    pub hands_out : (link : L) → ends passed ≡ [] → HandsOut (w.left old) (w.left new) (w.link link).left (w.link link).held → IsCalm (w.link link)
        → w.handed_out new ≡ w.handed_out old + 1 → w.given_back new ≡ w.given_back old → w.faults new ≡ w.faults old → FrontCourse w start (passed ++ Out link ∷ []) new
    hands_out link none_yet hands calm counted back faults =
        let same = ends_same passed (Out link) refl in
        let outs = outs_more passed (Out link) in
        record {
          listens = listens ∙ c.listens;
          are_out = subst (λ (links : List L). AreHandedOut w (w.left start) links (w.left new)) (sym outs) (handed_on (w.left start) (w.left old) (w.left new) (links_out passed) link c.are_out hands calm);
          handed_out = let long = one_longer (links_out passed) (links_out (passed ++ Out link ∷ [])) link outs in let was = c.handed_out in omega arith;
          given_back = back ∙ (c.given_back ∙ ap (λ (links : List L). w.given_back start ++ map w.link links) (sym (backs_same passed (Out link) refl)));
          failed = same_count (w.faults start) (w.faults old) (w.faults new) (ends passed ≡ end.Failed ∷ []) (ends (passed ++ Out link ∷ []) ≡ end.Failed ∷ []) c.failed faults (λ p. same ∙ p) (λ q. sym same ∙ q);
          ended = λ is. absurd (no_ended (ends (passed ++ Out link ∷ [])) (same ∙ none_yet) is);
          once = once_free passed (Out link) c.once none_yet;
        }

    module _ (left : w.left new ≡ w.left old) (counted : w.handed_out new ≡ w.handed_out old) where
      -- the links that were handed out, where none was
      outs_stay : (e : Passing F L) → links_out (passed ++ e ∷ []) ≡ links_out passed → AreHandedOut w (w.left start) (links_out (passed ++ e ∷ [])) (w.left new)
      outs_stay e outs =
          subst (λ (links : List L). AreHandedOut w (w.left start) links (w.left new)) (sym outs)
          (subst (AreHandedOut w (w.left start) (links_out passed)) (sym left) c.are_out)

      out_number : (e : Passing F L) → links_out (passed ++ e ∷ []) ≡ links_out passed → w.handed_out new ≡ w.handed_out start + length (links_out (passed ++ e ∷ []))
      out_number e outs = counted ∙ (c.handed_out ∙ ap (λ (links : List L). w.handed_out start + length links) (sym outs))

      pub takes_back : (link : L) → w.given_back new ≡ w.given_back old ++ w.link link ∷ [] → w.faults new ≡ w.faults old → FrontCourse w start (passed ++ Back link ∷ []) new
      takes_back link back faults =
          let same = ends_same passed (Back link) refl in
          let outs = outs_same passed (Back link) refl in
          let backs : map w.link (links_back (passed ++ Back link ∷ [])) ≡ map w.link (links_back passed) ++ w.link link ∷ [] =
          ap (map w.link) (backs_more passed (Back link)) ∙ map-append w.link (links_back passed) (link ∷ []) in
          record {
            listens = listens ∙ c.listens;
            are_out = outs_stay (Back link) outs;
            handed_out = out_number (Back link) outs;
            given_back = back ∙ (ap (λ l. l ++ w.link link ∷ []) c.given_back
                ∙ (append_assoc (w.given_back start) (map w.link (links_back passed)) (w.link link ∷ []) ∙ ap (λ l. w.given_back start ++ l) (sym backs)));
            failed = same_count (w.faults start) (w.faults old) (w.faults new) (ends passed ≡ end.Failed ∷ []) (ends (passed ++ Back link ∷ []) ≡ end.Failed ∷ []) c.failed faults (λ p. same ∙ p) (λ q. sym same ∙ q);
            ended = λ is. subst IsLast (sym left) (c.ended (sym same ∙ is));
            once = once_back passed (Back link) c.once tt;
          }

      module _ (none_yet : ends passed ≡ []) (back : w.given_back new ≡ w.given_back old) where
        backs_stay : (e : Passing F L) → links_back (passed ++ e ∷ []) ≡ links_back passed → w.given_back new ≡ w.given_back start ++ map w.link (links_back (passed ++ e ∷ []))
        backs_stay e backs = back ∙ (c.given_back ∙ ap (λ (links : List L). w.given_back start ++ map w.link links) (sym backs))

        -- no fault was counted so far
        calm_so_far : w.faults old ≡ w.faults start
        calm_so_far = c.failed.calm (no_failure (ends passed) none_yet)

        pub tells_end : IsLast (w.left old) → w.faults new ≡ w.faults old → FrontCourse w start (passed ++ Ended ∷ []) new
        tells_end last faults =
            let now : ends (passed ++ Ended ∷ []) ≡ end.Ended ∷ [] = ends_first passed Ended none_yet in
            record {
              listens = listens ∙ c.listens;
              are_out = outs_stay Ended (outs_same passed Ended refl);
              handed_out = out_number Ended (outs_same passed Ended refl);
              given_back = backs_stay Ended (backs_same passed Ended refl);
              failed = same_count (w.faults start) (w.faults old) (w.faults new) (ends passed ≡ end.Failed ∷ []) (ends (passed ++ Ended ∷ []) ≡ end.Failed ∷ []) c.failed faults
                  (λ p. absurd (no_failure (ends passed) none_yet p)) (λ q. absurd (other_end (ends (passed ++ Ended ∷ [])) q now));
              ended = λ is. subst IsLast (sym left) last;
              once = once_free passed Ended c.once none_yet;
            }

        pub tells_failure : Rose (w.faults old) (w.faults new) → w.faults old ≤ w.faults new → FrontCourse w start (passed ++ Failed ∷ []) new
        tells_failure rose later =
            let now : ends (passed ++ Failed ∷ []) ≡ end.Failed ∷ [] = ends_first passed Failed none_yet in
            record {
              listens = listens ∙ c.listens;
              are_out = outs_stay Failed (outs_same passed Failed refl);
              handed_out = out_number Failed (outs_same passed Failed refl);
              given_back = backs_stay Failed (backs_same passed Failed refl);
              failed = record {
                later = subst (λ n. n ≤ w.faults new) calm_so_far later;
                cause = λ is. subst (λ n. Rose n (w.faults new)) calm_so_far rose;
                calm = λ none. absurd (none now);
              };
              ended = λ is. absurd (other_end (ends (passed ++ Failed ∷ [])) now is);
              once = once_free passed Failed c.once none_yet;
            }
