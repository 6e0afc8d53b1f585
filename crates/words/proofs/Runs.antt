-- A list over words runs as the list over the slots and the number that they mean: step by step.
-- Assumes nothing.
use Prim.Native.Nat.{ℕ}
use mathlib.Core.Path.{◌≡◌, refl, ap, ◌∙◌}
use mathlib.Core.List.{List, [], ◌∷◌}
use lib.ListN.{length}
use Rattle.refusal.specs.Answer.{Answer, value, refused}
use Rattle.records.specs.Slots.{Slots}
use Rattle.records.specs.Node.{Node, Event, Request, nothing, add, collect, table_answer, tick, call, switchover, result, run, final, step}
use Rattle.records.specs.Number.{number_step, final_number}
use Rattle.records.specs.declared.Identity.{Identity}
use Rattle.words.specs.Words.{slots_of, number_of, added_words, collected_words, words_after, loaded_words}
use Rattle.words.specs.Answers.{Left}
use Rattle.words.specs.Runs.{step_words, EventFits, RunMeans}
use Rattle.words.proofs.Places.{length-put, length_number}
use Rattle.words.proofs.Ticks.{length_aged}
use Rattle.words.proofs.Fills.{length_filled, load_means}
use Rattle.words.proofs.Steps.{request_means, tick_means}

-- 64 words stay 64
added_length : (q : Identity) (u : ℕ) (w : List ℕ) (a : Answer ℕ) → length (added_words q u w a) ≡ length w
added_length q u w (value n) = length_number _ _ ∙ length-put w _ _ _ _
added_length q u w (refused n) = refl

collected_length : (q : Identity) (w : List ℕ) (a : Answer ℕ) → length (collected_words q w a) ≡ length w
collected_length q w (value n) = length_number _ _ ∙ length-put w _ _ _ _
collected_length q w (refused n) = refl

after_length : (r : Request) (w : List ℕ) → length (words_after r w) ≡ length w
after_length nothing w = refl
after_length (add q u) w = added_length q u w (table_answer (add q u) (slots_of w))
after_length (collect q) w = collected_length q w (table_answer (collect q) (slots_of w))

loaded_length : (w : List ℕ) (a : Answer Slots) → length (loaded_words w a) ≡ length w
loaded_length w (value t) = length_number _ _ ∙ length_filled 16 t w
loaded_length w (refused n) = refl

module _ (N : Node) where
  record Steps (w : List ℕ) (e : Event N.Call) : Type 0 where
    slots : slots_of (step_words N w e) ≡ step N (slots_of w) e
    number : number_of (step_words N w e) ≡ number_step N (slots_of w) (number_of w) e
    still : length (step_words N w e) ≡ length w

  steps : (w : List ℕ) (e : Event N.Call) → length w ≡ 64 → EventFits N e → Steps w e
  steps w tick l f =
      let m = tick_means w l in
      record { slots = ap (λ (y : Left). y.outcome.slots) m; number = ap (λ (y : Left). y.outcome.number) m; still = length_number _ _ ∙ length_aged 16 w }
  steps w (call c) l f =
      let m = request_means (N.request c) w l f in
      record { slots = ap (λ (y : Left). y.outcome.slots) m; number = ap (λ (y : Left). y.outcome.number) m; still = after_length (N.request c) w }
  steps w switchover l f =
      let m = load_means (N.handover (slots_of w)) w l (f w) in
      record { slots = m.0; number = m.1; still = loaded_length w (N.handover (slots_of w)) }

pub run_means : RunMeans
run_means N w [] l f = record { results = refl; slots = refl; number = refl }
run_means N w (e ∷ es) l (f, fs) =
    let s = steps N w e l f in
    let r = run_means N (step_words N w e) es (s.still ∙ l) fs in
    record {
      results = λ i. result N (slots_of w) e ∷ (r.results ∙ ap (λ (t : Slots). run N t es) s.slots) i;
      slots = r.slots ∙ ap (λ (t : Slots). final N t es) s.slots;
      number = r.number ∙ (λ i. final_number N (s.slots i) (s.number i) es);
    }
