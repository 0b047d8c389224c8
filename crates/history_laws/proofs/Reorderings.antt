-- Histories that differ in the order of events between purges say the same.
use Rattle.std.proofs.Common.{◌≡◌, ◌≢◌, ◌∙◌, ℕ, ℤ, List, [], ◌∷◌, refl, sym, ap, Bool, true, false, not, ◌&&◌, if◌then◌else◌}
use Rattle.std.specs.List.{filter, flat_map}
use Rattle.std.specs.Str.{bytes_eq}
use Rattle.spool_spec.proofs.of_plain_laws.Booleans.{no_truth}
use Rattle.spool_spec.specs.fleet_rows.declared.command.Kind.TheVariants as kind
use Rattle.spool_spec.specs.fleet_rows.declared.settings.Kinds.{Kinds}
use Rattle.spool_spec.specs.fleet_rows.declared.settings.Ttls.{Ttls}
use Rattle.spool_spec.specs.fleet_rows.Change.{change_certname}
use Rattle.spool_spec.specs.fleet_rows.declared.applied.Applied.{Applied}
use Rattle.spool_spec.specs.history_spec.Trace.{TraceEvent, applied, swept, Trace, receipts}
use Rattle.spool_spec.specs.history_spec.Node.{later, is_purged}
use Rattle.spool_spec.specs.history_spec.Life.{life, greatest_expiry, greatest_retention, kept_reports, certnames, nodes, is_inactive}
use Rattle.spool_spec.specs.history_spec.Facts.{rows_of_newest, node_rows}
use Rattle.history_laws.specs.OrderLaws.{IsNoPurge, Reordered, unchanged, swapped, behind, stepwise, AreDistinct, SayTheSame, TheOrderBetweenPurgesSaysNothing}
use Rattle.history_laws.proofs.Members.{All-Among, All-from_Among}
use Rattle.history_laws.proofs.SameMembers.{SameMembers, same_members-refl, same_members-through, same_members-cons, same_members-swapped, same_members-Contains}
use Rattle.history_laws.proofs.SortedTexts.{sorted_texts_by_members}
use Rattle.history_laws.proofs.Summaries.{SameSummary, same_list, same_through, same_behind, same_swapped, later_either, same_deactivated, same_expired, same_inactive, same_purged, same_reports}

record SameHistory (ttls : Ttls) (history other : Trace) : Type 0 where
  expiry : greatest_expiry history ≡ greatest_expiry other
  lives : (node : List ℕ) → SameSummary (life ttls node history) (life ttls node other)
  retention : greatest_retention history ≡ greatest_retention other
  nodes : SameMembers (certnames history) (certnames other)
  numbers : SameMembers (receipts history) (receipts other)

module _ (ttls : Ttls) where
  nothing_changed : (history : Trace) → SameHistory ttls history history
  nothing_changed history = record { expiry = refl; retention = refl; lives = λ node. same_list _ _ refl; nodes = same_members-refl (certnames history); numbers = same_members-refl (receipts history) }

  through : (history between other : Trace) → SameHistory ttls history between → SameHistory ttls between other → SameHistory ttls history other
  through history between other h k = record {
    expiry = h.expiry ∙ k.expiry;
    lives = λ node. same_through _ _ _ (h.lives node) (k.lives node);
    retention = h.retention ∙ k.retention;
    nodes = same_members-through _ _ _ h.nodes k.nodes;
    numbers = same_members-through _ _ _ h.numbers k.numbers;
  }

  -- ---- the same event in front

  if_of_node : (b : Bool) (x : Applied) (xs ys : List Applied) → SameSummary xs ys → SameSummary (if b then x ∷ xs else xs) (if b then x ∷ ys else ys)
  if_of_node true x xs ys h = same_behind x xs ys h
  if_of_node false x xs ys h = h

  if_purged : (b c : Bool) (xs ys : List Applied) → b ≡ c → SameSummary xs ys → SameSummary (if b then [] else xs) (if c then [] else ys)
  if_purged true true xs ys e h = same_list [] [] refl
  if_purged true false xs ys e h = no_truth (sym e)
  if_purged false true xs ys e h = no_truth e
  if_purged false false xs ys e h = h

  in_front : (e : TraceEvent) (history other : Trace) → SameHistory ttls history other → SameHistory ttls (e ∷ history) (e ∷ other)
  in_front (applied x) history other h = record {
    expiry = h.expiry;
    lives = λ node. if_of_node (bytes_eq node (change_certname x.change)) x (life ttls node history) (life ttls node other) (h.lives node);
    retention = h.retention;
    nodes = same_members-cons (change_certname x.change) (certnames history) (certnames other) h.nodes;
    numbers = same_members-cons x.receipt (receipts history) (receipts other) h.numbers;
  }
  in_front (swept kinds m) history other h =
      let expiry : greatest_expiry (swept kinds m ∷ history) ≡ greatest_expiry (swept kinds m ∷ other) = ap (λ o. if kinds.expire then later m o else o) h.expiry in
      record {
        expiry = expiry;
        lives = λ node.
            if_purged (kinds.purge && is_purged ttls m (greatest_expiry (swept kinds m ∷ history)) (life ttls node history)) (kinds.purge && is_purged ttls m (greatest_expiry (swept kinds m ∷ other)) (life ttls node other)) (life ttls node history) (life ttls node other)
            (ap (λ b. kinds.purge && b) (same_purged (life ttls node history) (life ttls node other) (h.lives node) ttls m _ _ expiry)) (h.lives node);
        retention = ap (λ o. if kinds.reports then later m o else o) h.retention;
        nodes = h.nodes;
        numbers = h.numbers;
      }

  -- ---- two neighbours

  -- a sweep without a purge leaves each life
  life_left : (node : List ℕ) (kinds : Kinds) (m : ℤ) (earlier : Trace) → kinds.purge ≡ false → life ttls node (swept kinds m ∷ earlier) ≡ life ttls node earlier
  life_left node kinds m earlier e = rw e refl

  swap_commands : (b c : Bool) (x y : Applied) (xs : List Applied) → x.receipt ≢ y.receipt → SameSummary (if b then x ∷ (if c then y ∷ xs else xs) else (if c then y ∷ xs else xs)) (if c then y ∷ (if b then x ∷ xs else xs) else (if b then x ∷ xs else xs))
  swap_commands true true x y xs two = same_swapped x y xs two
  swap_commands true false x y xs two = same_list _ _ refl
  swap_commands false true x y xs two = same_list _ _ refl
  swap_commands false false x y xs two = same_list _ _ refl

  life_swapped : (node : List ℕ) (e f : TraceEvent) (earlier : Trace) → IsNoPurge e → IsNoPurge f → AreDistinct (receipts (e ∷ f ∷ earlier)) → SameSummary (life ttls node (e ∷ f ∷ earlier)) (life ttls node (f ∷ e ∷ earlier))
  life_swapped node (applied x) (applied y) earlier p q two =
      swap_commands (bytes_eq node (change_certname x.change)) (bytes_eq node (change_certname y.change)) x y (life ttls node earlier) (λ same. two.0.0 (sym same))
  life_swapped node (applied x) (swept kinds m) earlier p q two =
      same_list _ _ (ap (λ xs. if bytes_eq node (change_certname x.change) then x ∷ xs else xs) (life_left node kinds m earlier q) ∙ sym (life_left node kinds m (applied x ∷ earlier) q))
  life_swapped node (swept kinds m) (applied y) earlier p q two =
      same_list _ _ (life_left node kinds m (applied y ∷ earlier) p ∙ ap (λ xs. if bytes_eq node (change_certname y.change) then y ∷ xs else xs) (sym (life_left node kinds m earlier p)))
  life_swapped node (swept kinds m) (swept others n) earlier p q two =
      same_list _ _ (life_left node kinds m (swept others n ∷ earlier) p ∙ life_left node others n earlier q ∙ sym (life_left node kinds m earlier p) ∙ sym (life_left node others n (swept kinds m ∷ earlier) q))

  expiry_swapped : (e f : TraceEvent) (earlier : Trace) → greatest_expiry (e ∷ f ∷ earlier) ≡ greatest_expiry (f ∷ e ∷ earlier)
  expiry_swapped (applied x) (applied y) earlier = refl
  expiry_swapped (applied x) (swept kinds m) earlier = refl
  expiry_swapped (swept kinds m) (applied y) earlier = refl
  expiry_swapped (swept kinds m) (swept others n) earlier = later_either kinds.expire others.expire m n (greatest_expiry earlier)

  retention_swapped : (e f : TraceEvent) (earlier : Trace) → greatest_retention (e ∷ f ∷ earlier) ≡ greatest_retention (f ∷ e ∷ earlier)
  retention_swapped (applied x) (applied y) earlier = refl
  retention_swapped (applied x) (swept kinds m) earlier = refl
  retention_swapped (swept kinds m) (applied y) earlier = refl
  retention_swapped (swept kinds m) (swept others n) earlier = later_either kinds.reports others.reports m n (greatest_retention earlier)

  certnames_swapped : (e f : TraceEvent) (earlier : Trace) → SameMembers (certnames (e ∷ f ∷ earlier)) (certnames (f ∷ e ∷ earlier))
  certnames_swapped (applied x) (applied y) earlier = same_members-swapped (change_certname x.change) (change_certname y.change) (certnames earlier)
  certnames_swapped (applied x) (swept kinds m) earlier = same_members-refl _
  certnames_swapped (swept kinds m) (applied y) earlier = same_members-refl _
  certnames_swapped (swept kinds m) (swept others n) earlier = same_members-refl _

  receipts_swapped : (e f : TraceEvent) (earlier : Trace) → SameMembers (receipts (e ∷ f ∷ earlier)) (receipts (f ∷ e ∷ earlier))
  receipts_swapped (applied x) (applied y) earlier = same_members-swapped x.receipt y.receipt (receipts earlier)
  receipts_swapped (applied x) (swept kinds m) earlier = same_members-refl _
  receipts_swapped (swept kinds m) (applied y) earlier = same_members-refl _
  receipts_swapped (swept kinds m) (swept others n) earlier = same_members-refl _

  still_distinct : (e f : TraceEvent) (earlier : Trace) → AreDistinct (receipts (e ∷ f ∷ earlier)) → AreDistinct (receipts (f ∷ e ∷ earlier))
  still_distinct (applied x) (applied y) earlier d = (((λ same. d.0.0 (sym same)), d.1.0), (d.0.1, d.1.1))
  still_distinct (applied x) (swept kinds m) earlier d = d
  still_distinct (swept kinds m) (applied y) earlier d = d
  still_distinct (swept kinds m) (swept others n) earlier d = d

  distinct_behind : (e : TraceEvent) (history other : Trace) → AreDistinct (receipts (e ∷ history)) → SameMembers (receipts history) (receipts other) → AreDistinct (receipts other) → AreDistinct (receipts (e ∷ other))
  distinct_behind (applied x) history other d same rest =
      (All-from_Among (λ r. r ≢ x.receipt) (receipts other) (λ r a. All-Among (λ s. s ≢ x.receipt) (receipts history) r d.0 (same.back r a)), rest)
  distinct_behind (swept kinds m) history other d same rest = rest

  distinct_rest : (e : TraceEvent) (history : Trace) → AreDistinct (receipts (e ∷ history)) → AreDistinct (receipts history)
  distinct_rest (applied x) history d = d.1
  distinct_rest (swept kinds m) history d = d

  record Follows (history other : Trace) : Type 0 where
    same : SameHistory ttls history other
    distinct : AreDistinct (receipts other)

  follows : {history other : Trace} → Reordered history other → AreDistinct (receipts history) → Follows history other
  follows {history} unchanged d = record { same = nothing_changed history; distinct = d }
  follows (swapped e f {earlier} p q) d = record {
    same = record {
      expiry = expiry_swapped e f earlier;
      retention = retention_swapped e f earlier;
      lives = λ node. life_swapped node e f earlier p q d;
      nodes = certnames_swapped e f earlier;
      numbers = receipts_swapped e f earlier;
    };
    distinct = still_distinct e f earlier d;
  }
  follows (behind e {history} {other} r) d =
      let rest = follows r (distinct_rest e history d) in
      record { same = in_front e history other rest.same; distinct = distinct_behind e history other d rest.same.numbers rest.distinct }
  follows (stepwise {history} {between} {other} r s) d =
      let first = follows r d in
      let second = follows s first.distinct in
      record { same = through history between other first.same second.same; distinct = second.distinct }

  -- ---- what is said

  module _ (history other : Trace) (h : SameHistory ttls history other) where
    same_activity : (node : List ℕ) → is_inactive ttls history node ≡ is_inactive ttls other node
    same_activity node = same_inactive (life ttls node history) (life ttls node other) (h.lives node) ttls _ _ h.expiry

    same_nodes : nodes ttls history ≡ nodes ttls other
    same_nodes = λ i. filter (λ node. not ((h.lives node).empty i)) (sorted_texts_by_members (certnames history) (certnames other) h.nodes.there h.nodes.back i)

    same_rows : (node : List ℕ) → node_rows ttls history node ≡ node_rows ttls other node
    same_rows node = ap rows_of_newest ((h.lives node).newest_of kind.Facts)

    said : SayTheSame ttls history other
    said = record {
      expiry = h.expiry;
      retention = h.retention;
      nodes = same_nodes;
      activity = λ node. (h.lives node).active;
      newest = λ k node. (h.lives node).newest_of k;
      deactivated = λ node. same_deactivated (life ttls node history) (life ttls node other) (h.lives node);
      expired = λ node. same_expired (life ttls node history) (life ttls node other) (h.lives node) ttls _ _ h.expiry;
      inactive = same_activity;
      fact_rows = λ i. flat_map (λ node. same_rows node i) (same_nodes i);
      active_fact_rows = λ i. flat_map (λ node. same_rows node i) (filter (λ node. not (same_activity node i)) (same_nodes i));
      reports = λ node x.
          same_members-Contains (kept_reports ttls node history) (kept_reports ttls node other) x (same_reports (life ttls node history) (life ttls node other) (h.lives node) ttls _ _ h.retention);
    }

pub the_order_between_purges_says_nothing : TheOrderBetweenPurgesSaysNothing
the_order_between_purges_says_nothing ttls history other d r = said ttls history other (follows ttls r d).same
