-- `collect`: the slot that its search finds is that of the record meant, and that slot alone is emptied.
use Rattle.std.proofs.Common.{◌≡◌, length, refl, sym, ap, ◌∙◌, arith}
use Rattle.std.proofs.lemmas.Result.{err_from_is_err_and}
use Rattle.refusal.specs.Answer.{value, refused}
use Rattle.refusal.specs.declared.Refusal.{Refusal}
use Rattle.records.specs.Slots.{collect_answer}
use Rattle.records.specs.Number.{fewer}
use Rattle.words.specs.Words.{slots_of, empty_slot, with_number}
use Rattle.words.specs.Answers.{left}
use Rattle.words.proofs.Places.{sixteen, residence_of}
use Rattle.words.proofs.Steps.{collect_answered}
use Rattle.lent.specs.Answers.{place_of}
use Rattle.lent.proofs.Search.{found_at, found_none, slot_of, refusal_of}
use Rattle.lent.proofs.operations.collect.Goals as goal

pub returns-in_err-slot : goal.returns-in_err-slot
returns-in_err-slot c =
    let a = c.args in
    let w = a.words.now in
    let m : length w ≡ 64 = omega arith in
    let k = c.key_of.ensures in
    let p = c.place.ensures a.identity k.0 refl k.1 in
    let r = refusal_of c.place.result Refusal.NoRecord c.in_err-slot.field-0.0 (sym c.ok_or.ensures.value ∙ c.in_err-slot.was) in
    let e = err_from_is_err_and c.from_residual.result c.from_residual.ensures.1 in
    rw (e.1, e.2, r.1)
    (collect_answered w m a.identity k.1 (refused 15) (ap collect_answer (found_none a.identity (slots_of w) c.place.result (sixteen w) p r.0)))

pub returns : goal.returns
returns c =
    let a = c.args in
    let w = a.words.now in
    let m : length w ≡ 64 = omega arith in
    let k = c.key_of.ensures in
    let s = c.in_ok-slot.slot in
    let p = c.place.ensures a.identity k.0 refl k.1 in
    let f = slot_of c.place.result Refusal.NoRecord s (sym c.ok_or.ensures.value ∙ c.in_ok-slot.was) in
    let r = c.residence_at-residence.result in
    let u = c.residence_at-residence.ensures ∙ sym (residence_of w s.number s.of_table) in
    let put = c.put.ensures ∙ ap (empty_slot w) (ap place_of (sym f) ∙ p) in
    let number = c.fewer.ensures ∙ ap (fewer 1) c.number-kept.ensures in
    (λ i. left (value r) ((c.set_number.ensures ∙ (λ j. with_number (put j) (number j))) i))
    ∙ collect_answered w m a.identity k.1 (value r)
    (ap collect_answer (found_at a.identity (slots_of w) c.place.result (sixteen w) p s f) ∙ ap value (sym u))
