-- `add`: its two searches say whether the identity waits and which slot is the lowest empty one.
use Rattle.std.proofs.Common.{◌≡◌, ℕ, length, refl, sym, ap, ◌∙◌, arith}
use Rattle.std.proofs.lemmas.Result.{err_from_is_err_and}
use borrow.Author.Tests.{lt-ltb, le-ltb}
use Rattle.refusal.specs.Answer.{value, refused}
use Rattle.refusal.specs.declared.Refusal.{Refusal}
use Rattle.records.specs.Slots.{empty, lowest, fresh, add_answer}
use Rattle.records.specs.Number.{one_more}
use Rattle.words.specs.Words.{slots_of, put_record, with_number}
use Rattle.words.specs.Answers.{left}
use Rattle.words.proofs.Places.{sixteen}
use Rattle.words.proofs.Steps.{add_answered}
use Rattle.lent.specs.Answers.{place_of}
use Rattle.lent.proofs.Search.{some_of, none_of, found_at, found_none, slot_of, refusal_of}
use Rattle.lent.proofs.operations.add.Goals as goal

pub returns-then-is_some : goal.returns-then-is_some
returns-then-is_some c =
    let a = c.args in
    let w = a.words.now in
    let l = slots_of w in
    let m : length w ≡ 64 = omega arith in
    let k = c.key_of.ensures in
    let p = c.place.ensures a.identity k.0 refl k.1 in
    let s = some_of c.place.result (sym c.is_some.ensures ∙ c.if-is_some.true) in
    add_answered w m a.identity k.1 a.residence (refused 13) (rw (found_at a.identity l c.place.result (sixteen w) p s.0 s.1))

pub returns-in_err-slot : goal.returns-in_err-slot
returns-in_err-slot c =
    let a = c.args in
    let w = a.words.now in
    let l = slots_of w in
    let m : length w ≡ 64 = omega arith in
    let k = c.key_of.ensures in
    let p = c.place.ensures a.identity k.0 refl k.1 in
    let none = found_none a.identity l c.place.result (sixteen w) p (none_of c.place.result (sym c.is_some.ensures ∙ c.if-is_some.false)) in
    let r = refusal_of c.vacancy.result Refusal.NoEmptySlot c.in_err-slot.field-0.0 (sym c.ok_or.ensures.value ∙ c.in_err-slot.was) in
    let at : 16 ≡ lowest empty l = ap place_of (sym r.0) ∙ c.vacancy.ensures in
    let full = le-ltb (lowest empty l) (length l) (omega (arith, sixteen w, at)) in
    let e = err_from_is_err_and c.from_residual.result c.from_residual.ensures.1 in
    rw (e.1, e.2, r.1) (add_answered w m a.identity k.1 a.residence (refused 14) (λ i. add_answer (none i) (full i)))

pub returns : goal.returns
returns c =
    let a = c.args in
    let w = a.words.now in
    let l = slots_of w in
    let m : length w ≡ 64 = omega arith in
    let k = c.key_of.ensures in
    let p = c.place.ensures a.identity k.0 refl k.1 in
    let none = found_none a.identity l c.place.result (sixteen w) p (none_of c.place.result (sym c.is_some.ensures ∙ c.if-is_some.false)) in
    let s = c.in_ok-slot.slot in
    let f = slot_of c.vacancy.result Refusal.NoEmptySlot s (sym c.ok_or.ensures.value ∙ c.in_ok-slot.was) in
    let at : s.number ≡ lowest empty l = ap place_of (sym f) ∙ c.vacancy.ensures in
    let room = lt-ltb (lowest empty l) (length l) (omega (arith, sixteen w, at, s.of_table)) in
    let put = c.put_record.ensures.0 ∙ ap (λ (j : ℕ). put_record w j (fresh a.identity a.residence)) at in
    let number = c.one_more.ensures ∙ ap one_more c.number-kept.ensures in
    (λ i. left (value 0) ((c.set_number.ensures ∙ (λ j. with_number (put j) (number j))) i))
    ∙ add_answered w m a.identity k.1 a.residence (value 0) (λ i. add_answer (none i) (room i))
