-- The counts of a report: each is that of its answer in the run, together they are the calls, and some numbers are never counted.
-- Assumes nothing.
use Prim.Native.Nat.{ℕ, zero, suc, ◌+◌, ◌<◌}
use mathlib.Core.Path.{◌≡◌, refl, sym, ap, subst, ◌∙◌}
use mathlib.Core.Bool.{Bool, true, false, cond}
use mathlib.Core.List.{List, [], ◌∷◌, map}
use mathlib.Core.Logic.{inl, inr}
use native.Mathlib.Omega.{arith}
use borrow.Author.Tests.{eqb-true, eqb-false}
use lib.Dec.{eqb}
use lib.ListN.{length, get_or, set, replicate, length-set}
use lib.Seq.{get_or-set_same, get_or-set_other}
use Rattle.refusal.specs.Answer.{Answer, value, refused}
use Rattle.refusal.proofs.Answers.{Numbered, numbered_by}
use Rattle.records.specs.Slots.{Slots, zeros}
use Rattle.records.specs.Node.{table_answer, Event, tick, call, switchover, step, result, run}
use Rattle.image.specs.Layout.{sum}
use Rattle.rules.specs.declared.Handled.{Handled as Word}
use Rattle.rules.specs.declared.Handled.TheVariants.{Updated as updated, Passed as passed, Created as created, Waiting as waiting, Added as added}
use Rattle.rules.specs.Rules.{Mode, one_step, two_step, Call, word_number, rules}
use Rattle.rules.specs.Numbers.{GivenAt}
use Rattle.rules.proofs.Numbers.{numbers_given, eleven_withdrawn}
use Rattle.capture.specs.Layout.{body_kind, bodies_in}
use Rattle.report.specs.declared.Counts.{Counts}
use Rattle.report.specs.declared.Report.{Report}
use Rattle.report.specs.Events.{lent_output, call_in, event_in}
use Rattle.report.specs.Report.{counting, refused_more, with_answer, with_result, report_from, nothing_yet, report_of}
use Rattle.report.specs.Promises.{count_of, same_answer, given_in, CountsOfRun, total, calls_in, CountsAddUp, ElevenNeverCounted, NeverCounted, NothingToReport}
use Rattle.report.proofs.Captures.{reported}

-- what a call answers
abbrev answer_at : Slots → Call → Answer Word
answer_at t c = (rules.reply c (table_answer (rules.request c) t)).answer

-- each number has its place among the 17
abbrev Placed : Answer Word → Type 0
Placed a = Numbered (λ n. n < 17) a

placed : (t : Slots) (c : Call) → Placed (answer_at t c)
placed t c = numbered_by (λ n. n < 17) (answer_at t c) (λ n e. go c.mode n (numbers_given t 0 c n e))
  where
    go : (m : Mode) (n : ℕ) → GivenAt m c n → n < 17
    go one_step n g = omega (arith, g.1)
    go two_step n (inl g) = omega (arith, g.1)
    go two_step n (inr (inl g)) = omega (arith, g.0)
    go two_step n (inr (inr g)) = omega (arith, g.1)

refused_length : (ns : List ℕ) (a : Answer Word) → length (refused_more ns a) ≡ length ns
refused_length ns (value w) = refl
refused_length ns (refused n) = length-set ns _ _

-- ---- each count is that of its answer in the run

more : (b : Bool) (n : ℕ) → cond b (n + 1) n ≡ cond b (suc n) n
more true n = omega arith
more false n = refl

word_more :
    (c : Counts) (v w : Word)
    → count_of (with_answer c (value w)) (value v) ≡ cond (eqb (word_number v) (word_number w)) (suc (count_of c (value v))) (count_of c (value v))
word_more c updated w = more (eqb 0 (word_number w)) c.updated
word_more c passed w = more (eqb 1 (word_number w)) c.passed
word_more c created w = more (eqb 2 (word_number w)) c.created
word_more c waiting w = more (eqb 3 (word_number w)) c.waiting
word_more c added w = more (eqb 4 (word_number w)) c.added

number_more :
    (ns : List ℕ) (m n : ℕ)
    → n < length ns
    → get_or (set ns n (get_or ns n 0 + 1)) m 0 ≡ cond (eqb m n) (suc (get_or ns m 0)) (get_or ns m 0)
number_more ns m n h = go (eqb m n) refl
  where
    go : (b : Bool) → eqb m n ≡ b → get_or (set ns n (get_or ns n 0 + 1)) m 0 ≡ cond b (suc (get_or ns m 0)) (get_or ns m 0)
    go true e = rw (eqb-true m n e) (omega (arith, get_or-set_same ns n (get_or ns n 0 + 1) 0 h))
    go false e = get_or-set_other ns n m (get_or ns n 0 + 1) 0 (eqb-false m n e)

count_more :
    (c : Counts) (a b : Answer Word)
    → length c.refused ≡ 17
    → Placed b
    → count_of (with_answer c b) a ≡ cond (same_answer a b) (suc (count_of c a)) (count_of c a)
unfolding same_answer
count_more c (value v) (value w) l h = word_more c v w
count_more c (value updated) (refused n) l h = refl
count_more c (value passed) (refused n) l h = refl
count_more c (value created) (refused n) l h = refl
count_more c (value waiting) (refused n) l h = refl
count_more c (value added) (refused n) l h = refl
count_more c (refused m) (value w) l h = refl
count_more c (refused m) (refused n) l h = number_more c.refused m n (omega arith)

given_more : (b : Bool) (x y n g : ℕ) → x ≡ y + g → y ≡ cond b (suc n) n → x ≡ n + cond b (suc g) g
given_more true x y n g e f = omega arith
given_more false x y n g e f = omega arith

counts_from :
    (es : List (Event Call)) (a : Answer Word) (r : Report) (t : Slots)
    → length r.counts.refused ≡ 17
    → count_of (report_from r (run counting t es)).counts a ≡ count_of r.counts a + given_in a (run rules t es)
counts_from [] a r t l = omega arith
counts_from (tick ∷ es) a r t l = counts_from es a r (step rules t tick) l
counts_from (call c ∷ es) a r t l =
    let b = answer_at t c in
    let next = step rules t (call c) in
    let s = with_result r (result counting t (call c)) in
    given_more (same_answer a b) (count_of (report_from s (run counting next es)).counts a) (count_of (with_answer r.counts b) a)
    (count_of r.counts a) (given_in a (run rules next es))
    (counts_from es a s next (refused_length r.counts.refused b ∙ l))
    (count_more r.counts a b l (placed t c))
counts_from (switchover ∷ es) a r t l = counts_from es a r (step rules t switchover) l

-- nothing is counted at first
none_yet : (a : Answer Word) → count_of nothing_yet.counts a ≡ 0
none_yet (value updated) = refl
none_yet (value passed) = refl
none_yet (value created) = refl
none_yet (value waiting) = refl
none_yet (value added) = refl
none_yet (refused n) = go 17 n
  where
    go : (k n : ℕ) → ◌≡◌ {A = ℕ} (get_or (replicate k 0) n 0) 0
    go zero n = refl
    go (suc k) zero = refl
    go (suc k) (suc n) = go k n

pub counts_of_run : CountsOfRun
counts_of_run es a = omega (arith, counts_from es a nothing_yet (replicate 16 zeros) refl, none_yet a)

-- ---- together they are the calls

set_one : (ns : List ℕ) (n : ℕ) → n < length ns → sum (set ns n (get_or ns n 0 + 1)) ≡ sum ns + 1
set_one [] n h = omega arith
set_one (x ∷ ns) zero h = omega arith
set_one (x ∷ ns) (suc n) h = omega (arith, set_one ns n (omega arith))

total_one : (c : Counts) (a : Answer Word) → length c.refused ≡ 17 → Placed a → total (with_answer c a) ≡ total c + 1
total_one c (value updated) l h = omega arith
total_one c (value passed) l h = omega arith
total_one c (value created) l h = omega arith
total_one c (value waiting) l h = omega arith
total_one c (value added) l h = omega arith
total_one c (refused n) l h = omega (arith, set_one c.refused n (omega arith))

total_from :
    (es : List (Event Call)) (r : Report) (t : Slots)
    → length r.counts.refused ≡ 17
    → total (report_from r (run counting t es)).counts ≡ total r.counts + calls_in es
total_from [] r t l = omega arith
total_from (tick ∷ es) r t l = total_from es r (step rules t tick) l
total_from (call c ∷ es) r t l =
    let a = answer_at t c in
    let n = total_one r.counts a l (placed t c) in
    omega (
      arith,
      total_from es (with_result r (result counting t (call c))) (step rules t (call c)) (refused_length r.counts.refused a ∙ l),
    )
total_from (switchover ∷ es) r t l = total_from es r (step rules t switchover) l

pub counts_add_up : CountsAddUp
counts_add_up es =
    let none : total nothing_yet.counts + calls_in es ≡ calls_in es = omega arith in
    total_from es nothing_yet (replicate 16 zeros) refl ∙ none

-- ---- a number that no call is refused with is counted at 0

-- what holds of each call of a list
abbrev EachCall : (Call → Type 0) → List (Event Call) → Type 0
EachCall P [] = Unit {0}
EachCall P (tick ∷ es) = EachCall P es
EachCall P (call c ∷ es) = P c × EachCall P es
EachCall P (switchover ∷ es) = EachCall P es

each_call : (P : Call → Type 0) → ((c : Call) → P c) → (es : List (Event Call)) → EachCall P es
each_call P h [] = tt
each_call P h (tick ∷ es) = each_call P h es
each_call P h (call c ∷ es) = (h c, each_call P h es)
each_call P h (switchover ∷ es) = each_call P h es

each_more : (P Q : Call → Type 0) → ((c : Call) → P c → Q c) → (es : List (Event Call)) → EachCall P es → EachCall Q es
each_more P Q h [] p = tt
each_more P Q h (tick ∷ es) p = each_more P Q h es p
each_more P Q h (call c ∷ es) p = (h c p.0, each_more P Q h es p.1)
each_more P Q h (switchover ∷ es) p = each_more P Q h es p

-- from no table is the call refused with m
abbrev Without : ℕ → Call → Type 0
Without m c = (t : Slots) → answer_at t c ≡ refused m → ⊥

refused_kept : (m : ℕ) (ns : List ℕ) (a : Answer Word) → (a ≡ refused m → ⊥) → get_or (refused_more ns a) m 0 ≡ get_or ns m 0
refused_kept m ns (value w) h = refl
refused_kept m ns (refused n) h = get_or-set_other ns n m (get_or ns n 0 + 1) 0 (λ e. h (ap refused (sym e)))

never_from :
    (m : ℕ) (es : List (Event Call)) (r : Report) (t : Slots)
    → EachCall (Without m) es
    → get_or (report_from r (run counting t es)).counts.refused m 0 ≡ get_or r.counts.refused m 0
never_from m [] r t h = refl
never_from m (tick ∷ es) r t h = never_from m es r (step rules t tick) h
never_from m (call c ∷ es) r t h =
    never_from m es (with_result r (result counting t (call c))) (step rules t (call c)) h.1
    ∙ refused_kept m r.counts.refused (answer_at t c) (h.0 t)
never_from m (switchover ∷ es) r t h = never_from m es r (step rules t switchover) h

without_zero : (c : Call) → Without 0 c
without_zero c t e = go c.mode (numbers_given t 0 c 0 e)
  where
    go : (m : Mode) → GivenAt m c 0 → ⊥
    go one_step g = omega (arith, g.0)
    go two_step (inl g) = omega (arith, g.0)
    go two_step (inr (inl g)) = omega (arith, g.0)
    go two_step (inr (inr g)) = omega (arith, g.0)

without_twelve : (c : Call) → length c.output ≡ 36 → Without 12 c
without_twelve c l t e = go c.mode (numbers_given t 0 c 12 e)
  where
    go : (m : Mode) → GivenAt m c 12 → ⊥
    go one_step g = omega (arith, g.1)
    go two_step (inl g) = omega (arith, g.1)
    go two_step (inr (inl g)) = omega (arith, g.1)
    go two_step (inr (inr g)) = omega (arith, g.0)

pub eleven_never_counted : ElevenNeverCounted
eleven_never_counted es =
    never_from 11 es nothing_yet (replicate 16 zeros) (each_call (Without 11) (λ c t e. eleven_withdrawn t 0 c e) es)

-- the calls of a capture are lent 36 octets
abbrev Lent : Call → Type 0
Lent c = length c.output ≡ 36

all_lent : (bs : List (List ℕ)) → EachCall Lent (map event_in bs)
unfolding event_in lent_output
all_lent [] = tt
all_lent (b ∷ bs) = go (eqb (body_kind b) 3) _ (all_lent bs)
  where
    go : (d : Bool) (m : Mode) → EachCall Lent (map event_in bs) → EachCall Lent (cond d tick (call (call_in m b)) ∷ map event_in bs)
    go true m l = l
    go false m l = (refl, l)

abbrev Never : Report → Type 0
Never r = (get_or r.counts.refused 0 0 ≡ 0) × (get_or r.counts.refused 11 0 ≡ 0) × (get_or r.counts.refused 12 0 ≡ 0)

Never-Lent : (es : List (Event Call)) → EachCall Lent es → Never (report_of es)
Never-Lent es l = (
  never_from 0 es nothing_yet (replicate 16 zeros) (each_call (Without 0) without_zero es),
  eleven_never_counted es,
  never_from 12 es nothing_yet (replicate 16 zeros) (each_more Lent (Without 12) without_twelve es l),
)

pub never_counted : NeverCounted
never_counted s r e = subst Never (reported s r e).1 (Never-Lent (map event_in (bodies_in s)) (all_lent (bodies_in s)))

-- ---- ticks and switchovers alone leave a report as it is

without_calls : (es : List (Event Call)) (r : Report) (t : Slots) → calls_in es ≡ 0 → report_from r (run counting t es) ≡ r
without_calls [] r t h = refl
without_calls (tick ∷ es) r t h = without_calls es r (step rules t tick) h
without_calls (call c ∷ es) r t h = absurd (omega arith)
without_calls (switchover ∷ es) r t h = without_calls es r (step rules t switchover) h

pub nothing_to_report : NothingToReport
nothing_to_report es h = without_calls es nothing_yet (replicate 16 zeros) h
