-- `vacancy`: the wait that the code reads is that of the slot.
use Rattle.std.proofs.Common.{ℕ, get_or, ap, arith}
use borrow.Author.Tests.{eq-eqb, ne_eqb}
use Rattle.records.specs.Slots.{empty, zeros}
use Rattle.words.specs.Words.{slots_of}
use Rattle.words.proofs.Places.{sixteen}
use Rattle.words.proofs.Ticks.{wait_of}
use Rattle.lent.proofs.Search.{search_here, search_on}
use Rattle.lent.proofs.operations.vacancy.Goals as goal

pub loop-i-init : goal.loop-i-init
loop-i-init c = (omega arith, sixteen _, omega arith)

pub returns-then-words-packed-eq0 : goal.returns-then-words-packed-eq0
returns-then-words-packed-eq0 c =
    let w = c.args.words.now in
    let i = c.loop-i.i in
    let at = ap (λ (j : ℕ). get_or w j 0) c.packed.ensures in
    search_here empty (slots_of w) i c.loop-i.invariant (omega arith) (eq-eqb (get_or (slots_of w) i zeros).wait 0 (omega (arith, wait_of w i (omega arith), at)))

pub loop-i-preserved : goal.loop-i-preserved
loop-i-preserved c =
    let w = c.args.words.now in
    let i = c.loop-i.i in
    let at = ap (λ (j : ℕ). get_or w j 0) c.packed.ensures in
    search_on empty (slots_of w) i c.loop-i.invariant (omega arith) (ne_eqb (get_or (slots_of w) i zeros).wait 0 (λ e. omega (arith, wait_of w i (omega arith), at)))
