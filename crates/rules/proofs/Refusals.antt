-- With which numbers a node refuses the two messages, and when the second: where it has missed the first.
-- Assumes nothing.
use Prim.Native.Nat.{ℕ, ◌+◌, ◌<◌, ◌≤◌}
use mathlib.Core.Path.{◌≡◌, refl, sym, ap, ◌∙◌, subst}
use mathlib.Core.Bool.{Bool, true, false, true≢false}
use mathlib.Core.List.{List}
use mathlib.Core.Logic.{◌⊎◌, inl, inr}
use mathlib.Core.Option.{Option, none, some, some-injective}
use native.Mathlib.Omega.{arith}
use native.Mathlib.Decide.{dec_lt, dec_le}
use lib.ListN.{get_elem?}
use Rattle.refusal.specs.Answer.{Answer, value, refused}
use Rattle.refusal.proofs.Answers.{not_both, Numbered}
use Rattle.residence.specs.Residence.{accepted_of}
use Rattle.records.specs.declared.RecordKind.{RecordKind}
use Rattle.records.specs.declared.RecordKind.TheVariants.{Sync, Delay}
use Rattle.records.specs.declared.Record.{Record}
use Rattle.records.specs.declared.Identity.{Identity}
use Rattle.records.specs.Slots.{find, vacant, add_answer, collect_answer}
use Rattle.records.specs.Node.{Request, collect, table_answer, collect_leaves, table_after, call}
use Rattle.records.specs.Order.{ticks}
use Rattle.records.proofs.Alone.{absent_before, found_in_time, gone_at_third}
use Rattle.records.proofs.Places.{ticks_mono}
use Rattle.rules.specs.Rules.{sync, first_of, second_of, kind_of, Mode, two_step, Call, Word, waiting, added, Reply, gather, keep_request, rules}
use Rattle.rules.specs.Path.{Stop, Visit, first_answer}
use Rattle.rules.specs.Credited.{ComesClear, FirstNumber, Missed}
use Rattle.rules.proofs.Calls.{first_of_lem, set_clear, FirstSays, refused_first, updated_first, waiting_first, FirstGiven, SecondGiven}
use Rattle.rules.proofs.Crossing.{asked, answered_first, FirstAt, first_at}
use Rattle.rules.proofs.Collecting.{Ready, adder, before, Leaves, same_call, is_first, asks, waiting-Taken, record_waits, is_second, collects, gathers, added_waited}
use Rattle.rules.proofs.Laws.{lawful}

-- the first message of a pair whose second is there is no Sync with S clear, nor is it the second
not_clear : (a : RecordKind) (q : Identity) → first_of a q ≡ sync q false → ⊥
not_clear Sync q e = let z : true ≡ false = cc in true≢false z
not_clear Delay q e = let z : ◌≡◌ {A = ℕ} 0 1 = cc in omega arith

not_second : (a : RecordKind) (q : Identity) → first_of a q ≡ second_of a q → ⊥
not_second Sync q e = let z : ◌≡◌ {A = ℕ} 0 1 = cc in omega arith
not_second Delay q e = let z : ◌≡◌ {A = ℕ} 0 1 = cc in omega arith

-- a two-step node refuses such a first message, or says "waiting"
refused_or_waiting : {m : Mode} {a : Answer Word} → FirstSays m false a → m ≡ two_step → ((i : ℕ) × (a ≡ refused i)) ⊎ (a ≡ value waiting)
refused_or_waiting (refused_first m b i) o = inl (i, refl)
refused_or_waiting (updated_first b) o = absurd (let z : ◌≡◌ {A = ℕ} 0 1 = cc in omega arith)
refused_or_waiting waiting_first o = inr refl

module _ (a : RecordKind) (q : Identity) (n : Stop) (y : Ready a q n) where
  abbrev pub from_table : Answer ℕ
  from_table = asked n n.first_place y.octets y.reply y.visit

  pub answered : first_answer n ≡ some y.reply.answer
  answered = answered_first q n y.octets y.reply y.visit

  at_first : FirstAt q n y.octets y.reply y.visit (first_of_lem a q)
  at_first = first_at q n y.octets y.reply y.visit (first_of_lem a q) y.kind

  pub first_says : FirstSays n.mode false y.reply.answer
  first_says = subst (λ (b : Bool). FirstSays n.mode b y.reply.answer) (set_clear a q) at_first.says_it

  pub first_given : Numbered (FirstGiven from_table n.mode false) y.reply.answer
  first_given = subst (λ (b : Bool). Numbered (FirstGiven from_table n.mode b) y.reply.answer) (set_clear a q) at_first.number

  module _ (k : ℕ) (place : n.second_place ≡ some k) (f : List ℕ) (r : Reply) (v : Visit n k f r) (e : kind_of f ≡ second_of a q) where
    -- no record of the identity waits when the first message comes: an early second one finds none, and leaves the table as it came
    early : k < n.first_place → find q (before n k) ≡ none
    early l = absent_before rules lawful n.table n.events q k y.apart.free (λ x c b h g. absurd (neither x b (y.apart.others x c h g)))
      where
        neither : (x : ℕ) → x < k → (x ≡ n.first_place) ⊎ (some x ≡ n.second_place) → ⊥
        neither x b (inl z) = omega arith
        neither x b (inr z) = let w : x ≡ k = cc in omega arith

    finds_none : n.mode ≡ two_step → find q (before n n.first_place) ≡ none
    finds_none o =
        absent_before rules lawful n.table n.events q n.first_place y.apart.free (λ x c l h g. by x c l h (y.apart.others x c h g))
      where
        leaves : k < n.first_place → Leaves n k v.handed
        leaves l =
            let T = before n k in
            ap (λ (z : Request). table_after z T) (collects a q n y k place f r v e o)
            ∙ ap (λ (z : Option Record). collect_leaves q T (collect_answer z)) (early l)

        by :
            (x : ℕ) (c : Call) → x < n.first_place → get_elem? n.events x ≡ some (call c)
            → (x ≡ n.first_place) ⊎ (some x ≡ n.second_place) → Leaves n x c
        by x c l h (inl z) = absurd (omega arith)
        by x c l h (inr z) =
            let w : x ≡ k = cc in
            let g : v.handed ≡ c = same_call (sym v.here ∙ ap (get_elem? n.events) (sym w) ∙ h) in
            subst (Leaves n x) g (subst (λ (j : ℕ). Leaves n j v.handed) (sym w) (leaves (omega arith)))

    -- so that the table's number is 14
    table_full : n.mode ≡ two_step → (i : ℕ) → from_table ≡ refused i → i ≡ 14
    table_full o i g =
        let T = before n n.first_place in
        go (accepted_of y.visit.handed.residence) (sym (ap (λ (z : Request). table_answer z T) (asks a q n y o)) ∙ g)
      where
        number : (b : Bool) → add_answer none b ≡ refused i → i ≡ 14
        number true h = absurd (not_both (sym h))
        number false h = cc

        go : (b : Answer ℕ) → table_answer (keep_request q b) (before n n.first_place) ≡ refused i → i ≡ 14
        go (refused j) h = absurd (not_both (sym h))
        go (value u) h =
            let T = before n n.first_place in
            number (vacant T) (sym (ap (λ (z : Option Record). add_answer z (vacant T)) (finds_none o)) ∙ h)

    never_clear : ComesClear q n → ⊥
    never_clear (c, h, g) =
        let same : adder y ≡ c = same_call (sym y.visit.here ∙ h) in
        not_clear a q (sym (is_first a q n y) ∙ ap (λ (x : Call). kind_of x.message) same ∙ g)

    pub first_number :
        (i : ℕ) → FirstGiven from_table n.mode false i → FirstNumber q n i
    first_number i (inl (inl z)) = inl z
    first_number i (inl (inr z)) = inr (inl z)
    first_number i (inr (o, z)) = inr (inr (o, inr (table_full o i z, never_clear)))

    -- ---- the second message

    from_record : n.mode ≡ two_step → asked n k f r v ≡ collect_answer (find q (before n k))
    from_record o = ap (λ (x : Request). table_answer x (before n k)) (collects a q n y k place f r v e o)

    pub second_number : (i : ℕ) → SecondGiven (asked n k f r v) n.mode i → (n.mode ≡ two_step) × (i ≡ 15)
    second_number i (o, z) = (o, go (find q (before n k)) (sym (from_record o) ∙ z))
      where
        go : (x : Option Record) → collect_answer x ≡ refused i → i ≡ 15
        go none h = cc
        go (some x) h = absurd (not_both (sym h))

    -- its answer, by what the table has for it
    answer_by : n.mode ≡ two_step → (t : Answer ℕ) → table_answer (collect q) (before n k) ≡ t → r.answer ≡ (gather v.handed t).answer
    answer_by o t h = ap (λ (x : Reply). x.answer) (gathers a q n y k place f r v e o) ∙ ap (λ (x : Answer ℕ). (gather v.handed x).answer) (from_record o ∙ h)

    none_there : n.mode ≡ two_step → find q (before n k) ≡ none → r.answer ≡ refused 15
    none_there o h = answer_by o (refused 15) (ap collect_answer h)

    -- where the first was refused,
    after_refusal : n.mode ≡ two_step → (i : ℕ) → y.reply.answer ≡ refused i → r.answer ≡ refused 15
    after_refusal o i h = go (find q (before n k)) refl
      where
        go : (x : Option Record) → find q (before n k) ≡ x → r.answer ≡ refused 15
        go none g = none_there o g
        go (some x) g = absurd (not_both (sym h ∙ added_waited a q n y k place f r v e (answer_by o (value x.residence) (ap collect_answer g))))

    -- or three ticks ago
    too_late : n.mode ≡ two_step → ticks n.first_place n.events + 3 ≤ ticks k n.events → r.answer ≡ refused 15
    too_late o t = go (dec_lt n.first_place k) (refused_or_waiting first_says o)
      where
        go : Dec (n.first_place < k) → ((i : ℕ) × (y.reply.answer ≡ refused i)) ⊎ (y.reply.answer ≡ value waiting) → r.answer ≡ refused 15
        go (no l) w = absurd (omega (arith, t, ticks_mono n.events k n.first_place (omega arith)))
        go (yes l) (inl (i, h)) = after_refusal o i h
        go (yes l) (inr w) =
            let x = waiting-Taken a q n y o w in
            none_there o (gone_at_third rules lawful n.table n.events q x.units_taken n.first_place k (record_waits a q n y k place o x l) t)

    in_time : n.mode ≡ two_step → y.reply.answer ≡ value waiting → n.first_place < k
        → ticks k n.events ≤ ticks n.first_place n.events + 2 → r.answer ≡ value added
    in_time o w l t =
        let x = waiting-Taken a q n y o w in
        answer_by o (value x.units_taken)
        (found_in_time rules lawful n.table n.events q x.units_taken n.first_place k (record_waits a q n y k place o x l) t)

    not_there : k ≡ n.first_place → ⊥
    not_there z =
        let same : adder y ≡ v.handed = same_call (sym y.visit.here ∙ ap (get_elem? n.events) (sym z) ∙ v.here) in
        not_second a q (sym (is_first a q n y) ∙ ap (λ (x : Call). kind_of x.message) same ∙ is_second a q n y k place f r v e)

    pub refused-Missed : n.mode ≡ two_step → r.answer ≡ refused 15 → Missed n k
    refused-Missed o h = go (refused_or_waiting first_says o) (dec_lt k n.first_place) (dec_lt n.first_place k)
      where
        go : ((i : ℕ) × (y.reply.answer ≡ refused i)) ⊎ (y.reply.answer ≡ value waiting)
            → Dec (k < n.first_place) → Dec (n.first_place < k) → Missed n k
        go (inl (i, g)) x z = inl (i, answered ∙ ap some g)
        go (inr w) (yes l) z = inr (inl l)
        go (inr w) (no l) (no m) = absurd (not_there (omega arith))
        go (inr w) (no l) (yes m) = by (dec_le (ticks k n.events) (ticks n.first_place n.events + 2))
          where
            by : Dec (ticks k n.events ≤ ticks n.first_place n.events + 2) → Missed n k
            by (yes t) = absurd (not_both (sym h ∙ in_time o w m t))
            by (no t) = inr (inr (omega arith))

    pub Missed-refused : n.mode ≡ two_step → Missed n k → r.answer ≡ refused 15
    Missed-refused o (inl (i, h)) = after_refusal o i (some-injective y.reply.answer (refused i) (sym answered ∙ h))
    Missed-refused o (inr (inl l)) = none_there o (early l)
    Missed-refused o (inr (inr t)) = too_late o t
