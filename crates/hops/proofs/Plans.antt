-- The plan of a path's hops is what the path shows: its sums are those of the path, by the nodes' modes.
-- Assumes nothing.
use Prim.Native.Nat.{ℕ, ◌+◌, ◌<◌}
use mathlib.Core.Path.{◌≡◌, refl, sym, ap, ◌∙◌}
use mathlib.Core.Bool.{Bool, true, false, cond, ◌||◌}
use mathlib.Core.List.{List, [], ◌∷◌, ◌++◌, map}
use mathlib.Core.Option.{Option, none, some}
use native.Mathlib.Omega.{arith}
use lib.Dec.{eqb}
use lib.IntN.{ℤ, pos}
use lib.ListN.{get_elem?, length-map}
use Rattle.refusal.specs.Answer.{Answer, value, refused}
use Rattle.residence.specs.Residence.{Residence}
use Rattle.residence.specs.Residence.{limit, accepted_of}
use Rattle.residence.proofs.Limit.{below_limit}
use Rattle.records.specs.declared.Identity.{Identity}
use Rattle.records.specs.Node.{Event, tick, call, switchover, Result}
use Rattle.scratch_pad.specs.Sum.{raised}
use Rattle.rules.specs.Change.{pad_of}
use Rattle.rules.specs.declared.Handled.{Handled as Word}
use Rattle.rules.specs.declared.Handled.TheVariants.{Updated as updated, Created as created, Added as added}
use Rattle.rules.specs.Rules.{sync, kind_of, Mode, one_step, two_step, Call, Reply}
use Rattle.rules.specs.Path.{Stop, Unrefused, Every, of_sync, FirstWay, FollowUps, existing, born, never, answer_in, first_answer, units_of, units_in, residence_at}
use Rattle.rules.specs.Credited.{says, some_created}
use Rattle.rules.proofs.Calls.{when, FirstSays, refused_first, updated_first, created_first, waiting_first, refused_second, passed_second, added_second}
use Rattle.rules.proofs.Crossing.{updated_at, answered_first, first_at}
use Rattle.rules.proofs.Answered.{Says, says_both, says_first, Answered}
use Rattle.rules.proofs.Pads.{total, on_second, never_created, sync-Pads}
use Rattle.rules.proofs.PathSums.{set_exactly_if}
use Rattle.hops.specs.Plan.{is_mode, residences_in, any_in, start_with}
use Rattle.hops.specs.Promises.{AllGood}
use Rattle.hops.specs.Shown.{mode_number, hop_at, two_step_in, is_there, PlanShown}
use Rattle.hops.proofs.Laws.{none_bad}

-- ---- no hop of a path is refused

units_below : (r : Residence) → units_of (accepted_of r) < limit
units_below r = go (accepted_of r) refl
  where
    go : (a : Answer ℕ) → accepted_of r ≡ a → units_of a < limit
    go (value u) e = below_limit r u e
    go (refused n) e = omega arith

below : (o : Option (Event Call)) → units_in o < limit
below none = omega arith
below (some tick) = omega arith
below (some switchover) = omega arith
below (some (call c)) = units_below c.residence

all_good : (ns : List Stop) → AllGood (map hop_at ns)
all_good [] = tt
all_good (n ∷ ns) = ((a_mode n.mode, below (get_elem? n.events n.first_place)), all_good ns)
  where
    a_mode : (m : Mode) → is_mode (mode_number m) ≡ true
    a_mode one_step = refl
    a_mode two_step = refl

-- ---- the sums, by mode

-- a residence is on the first pad at a one-step node, on the second at a two-step node
by_mode :
    {m : Mode} {o p : Option (Answer Word)} (u : ℕ) → Says m o p → ((i : ℕ) → o ≡ some (refused i) → ⊥) → ((i : ℕ) → p ≡ some (refused i) → ⊥)
    → (when updated o u ≡ cond (eqb (mode_number m) 1) u 0) × (when created o u + when added p u ≡ cond (eqb (mode_number m) 2) u 0)
by_mode u (says_both (refused_first m b i) s w) f g = absurd (f i refl)
by_mode u (says_both (updated_first b) passed_second w) f g = (refl, refl)
by_mode u (says_both waiting_first (refused_second i) w) f g = absurd (g i refl)
by_mode u (says_both waiting_first added_second w) f g = (refl, omega arith)
by_mode u (says_first (refused_first m b i)) f g = absurd (f i refl)
by_mode u (says_first (updated_first b)) f g = (refl, refl)
by_mode u (says_first created_first) f g = (refl, omega arith)

sums : (q : Identity) (ns : List Stop) → Every (Answered q) ns → Every Unrefused ns
    → (total updated_at ns ≡ residences_in 1 (map hop_at ns)) × (total on_second ns ≡ residences_in 2 (map hop_at ns))
sums q [] h u = (refl, refl)
sums q (n ∷ ns) h u =
    let x = by_mode (residence_at n) h.0.answers u.0.0 u.0.1 in
    let y = sums q ns h.1 u.1 in
    (omega (arith, x.0, y.0), omega (arith, x.1, y.1))

-- ---- S: where it is clear the first two-step hop sets it

creates : {m : Mode} {a : Answer Word} → FirstSays m true a → ((n : ℕ) → a ≡ refused n → ⊥) → says created (some a) ≡ eqb (mode_number m) 2
creates (refused_first m b n) f = absurd (f n refl)
creates (updated_first b) f = refl
creates created_first f = refl

module _ (q : Identity) where
  some_created_lem :
      {s last : List ℕ} {ns : List Stop} → kind_of s ≡ sync q false → Every Unrefused ns → FirstWay s ns last → some_created ns ≡ any_in 2 (map hop_at ns)
  some_created_lem e u FirstWay.done = refl
  some_created_lem e u (FirstWay.cross {n = n} {ns = ns} {s = s} {r = r} v w) = go (says created (first_answer n)) refl (λ g. some_created_lem g u.1 w)
    where
      answered : first_answer n ≡ some r.answer
      answered = answered_first q n s r v

      here : says created (first_answer n) ≡ eqb (mode_number n.mode) 2
      here = ap (says created) answered ∙ creates (first_at q n s r v (of_sync false) e).says_it (λ a f. u.0.0 a (answered ∙ ap some f))

      go :
          (b : Bool) → says created (first_answer n) ≡ b → (kind_of r.message ≡ sync q false → some_created ns ≡ any_in 2 (map hop_at ns))
          → some_created (n ∷ ns) ≡ any_in 2 (map hop_at (n ∷ ns))
      go true p on = rw (p, sym here ∙ p)
      go false p on = rw (p, sym here ∙ p) (on ((first_at q n s r v (of_sync false) e).grown.kind ∙ ap (sync q) p))

  set_at_end :
      (b : Bool) {s last : List ℕ} {ns : List Stop} → kind_of s ≡ sync q b → Every Unrefused ns → FirstWay s ns last
      → b || some_created ns ≡ b || any_in 2 (map hop_at ns)
  set_at_end true e u w = refl
  set_at_end false e u w = some_created_lem e u w

-- ---- the Follow_Up

created_there : (before after : List Stop) (n : Stop) → says created (first_answer n) ≡ true → some_created (before ++ n ∷ after) ≡ true
created_there [] after n e = rw e
created_there (m ∷ before) after n e = go (says created (first_answer m)) (created_there before after n e)
  where
    go : (b : Bool) → some_created (before ++ n ∷ after) ≡ true → b || some_created (before ++ n ∷ after) ≡ true
    go true h = refl
    go false h = h

-- there is one at the end exactly where S is set
is_there_lem : {q : Identity} {s : Bool} {ns : List Stop} {x y : ℤ} (f : FollowUps q s ns x y) → is_there f ≡ s || some_created ns
is_there_lem (existing k p w) = refl
is_there_lem (born before n {after} {r = r} us u at a p w) =
    sym (created_there before after n (ap (λ (o : Option (Result Reply)). says created (answer_in o)) at ∙ ap (λ (b : Answer Word). says created (some b)) a))
is_there_lem {q} (never {ns} all) = sym (never_created q ns all)

-- the pad that it starts with
start_pad : {q : Identity} {s : Bool} {ns : List Stop} {x y : ℤ} (handed : ℤ) → FollowUps q s ns x y → (s ≡ true → handed ≡ x) → cond s handed (pos 0) ≡ x
start_pad handed (existing k p w) h = h refl
start_pad handed (born before n us u at a p w) h = refl
start_pad handed (never all) h = refl

pub plan_shown : PlanShown
plan_shown q b s last ns x y handed l c h =
    let hs = map hop_at ns in
    let p = sync-Pads q b s last ns x y c.kind_is_sync c.apart c.sync_way c.follow_ups in
    let t = sums q ns p.each c.unrefused in
    let set : b || any_in 2 hs ≡ b || some_created ns = sym (set_at_end q b c.kind_is_sync c.unrefused c.sync_way) in
    let kind : kind_of last ≡ sync q (b || some_created ns) = set_exactly_if q b s last ns c.kind_is_sync c.sync_way in
    let flag : b || any_in 2 hs ≡ two_step_in (kind_of last) = set ∙ sym (ap two_step_in kind) in
    let there : b || any_in 2 hs ≡ is_there c.follow_ups = set ∙ sym (is_there_lem c.follow_ups) in
    let one : raised (pad_of s) (residences_in 1 hs) ≡ pad_of last = ap (raised (pad_of s)) (sym t.0) ∙ sym p.first_pad in
    let two : raised (cond b handed (pos 0)) (residences_in 2 hs) ≡ y =
    (λ j. raised (start_pad handed c.follow_ups h j) (sym t.1 j)) ∙ sym p.second_pad in (
      none_bad hs (start_with (pad_of s) handed b) (omega (arith, length-map ns hop_at)) (all_good ns)
          ∙ (λ j. value (record { sync_pad = one j; follow_up_pad = two j; two_step = flag j; exists = there j })),
      kind ∙ ap (sync q) (sym (ap two_step_in kind)),
    )
