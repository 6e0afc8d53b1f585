-- `load_image`: a refused load leaves the words as they came.
use Rattle.std.proofs.Common.{◌≡◌, ℕ, List, sym, ap, ◌∙◌}
use Rattle.std.proofs.lemmas.Result.{err_from_is_err_and}
use Rattle.std.specs.Prelude.{Result, replicate}
use Rattle.refusal.specs.Answer.{Answer, value, refused}
use Rattle.refusal.specs.Refusal.{number_of}
use Rattle.refusal.specs.declared.Refusal.{Refusal}
use Rattle.refusal.proofs.Answers.{not_both}
use Rattle.records.specs.Slots.{Slots, Outcome, zeros}
use Rattle.image.specs.Image.{load_of, load_by}
use Rattle.words.specs.Words.{slots_of, number_of as number_in, loaded_words}
use Rattle.words.specs.Answers.{Left, left}
use Rattle.switchover.specs.Answers.{loading_answer}
use Rattle.table.proofs.images.load_image.Goals as goal

abbrev load_left : List ℕ → Answer Slots → Left
load_left w a = record { outcome = load_by (slots_of w) (number_in w) a; words = loaded_words w a }

-- where the loader, over a table z with number k, refuses
refused_words :
    (z t : Slots) (k n r : ℕ) (w : List ℕ) (a : Answer Slots)
    → record { answer = refused r; slots = t; number = n } ≡ load_by z k a
    → left (refused r) w ≡ load_left w a
refused_words z t k n r w (value u) e = absurd (not_both (ap (λ (o : Outcome). o.answer) e))
refused_words z t k n r w (refused s) e = ap (λ (o : Outcome). left o.answer w) e

pub returns-in_err-loaded : goal.returns-in_err-loaded
returns-in_err-loaded c =
    let a = c.args in
    let r = c.load-loaded.result in
    let e = ap (λ (y : Result Unit Refusal). record { answer = loading_answer y; slots = r.slots; number = r.number }) (sym c.in_err-loaded.was) ∙ c.load-loaded.ensures in
    let p = err_from_is_err_and c.from_residual.result c.from_residual.ensures.1 in
    rw (p.1, p.2) (refused_words (replicate 16 zeros) r.slots 0 r.number (number_of c.in_err-loaded.field-0.0) a.words.now (load_of a.octets.now) e)
