-- Whole lists over words: calls, ticks and switchovers at a node whose table is its words. Their results, and what the words at the end
-- mean, are those of the lists over slots (`records` Node), so that every theorem about lists speaks of tables in words.
use Rattle.std.specs.Prelude.{ℕ, ◌≡◌, List, [], ◌∷◌, length}
use Rattle.records.specs.Node.{Node, Event, Result, tick, call, switchover, result, run, final}
use Rattle.records.specs.Number.{final_number}
use Rattle.words.specs.Words.{slots_of, number_of, words_after, tick_words, loaded_words}
use Rattle.words.specs.Meaning.{RequestFits, LoadFits}

module _ (N : Node) where
  abbrev pub step_words : List ℕ → Event N.Call → List ℕ
  step_words w tick = tick_words w
  step_words w (call c) = words_after (N.request c) w
  step_words w switchover = loaded_words w (N.handover (slots_of w))

  abbrev pub final_words : List ℕ → List (Event N.Call) → List ℕ
  final_words w [] = w
  final_words w (e ∷ es) = final_words (step_words w e) es

  abbrev pub run_words : List ℕ → List (Event N.Call) → List (Result N.Reply)
  run_words w [] = []
  run_words w (e ∷ es) = result N (slots_of w) e ∷ run_words (step_words w e) es

  -- fields of 16 and of 8 bits, in what each call asks for and in what a switchover brings
  abbrev pub EventFits : Event N.Call → Type 0
  EventFits tick = Unit {0}
  EventFits (call c) = RequestFits (N.request c)
  EventFits switchover = (w : List ℕ) → LoadFits (N.handover (slots_of w))

  abbrev pub EventsFit : List (Event N.Call) → Type 0
  EventsFit [] = Unit {0}
  EventsFit (e ∷ es) = EventFits e × EventsFit es

-- the words at the end of a list mean the slots and the number at its end, and every call and tick answers the same
pub record SameRun (N : Node) (w : List ℕ) (es : List (Event N.Call)) : Type 0 where
  pub results : run_words N w es ≡ run N (slots_of w) es
  pub slots : slots_of (final_words N w es) ≡ final N (slots_of w) es
  pub number : number_of (final_words N w es) ≡ final_number N (slots_of w) (number_of w) es

abbrev pub RunMeans : Type 1
RunMeans = (N : Node) (w : List ℕ) (es : List (Event N.Call)) → length w ≡ 64 → EventsFit N es → SameRun N w es
