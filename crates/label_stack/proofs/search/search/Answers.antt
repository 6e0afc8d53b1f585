-- `search` meets its contract: the hops before where the walk stands were searched in vain.
use Rattle.std.proofs.Common.{length, ◌≡◌, ◌<◌, ℕ, ◌+◌, ◌-◌, Bool, true, false, List, take, drop, get_or, sym, ap, ◌∙◌, arith}
use Rattle.std.proofs.Math.Option.{none, some}
use Rattle.rtm_set.specs.Entries.{entries_in, Sound}
use Rattle.rtm_set.proofs.Sound.{short, entries_few}
use Rattle.label_stack.specs.Ttl.{occurs}
use Rattle.label_stack.proofs.Walk.{part_at, here, Walked, on_path, walked_next, walked_found, walked_all, answered}
use Rattle.label_stack.proofs.search.search.Goals as goal
use Rattle.label_stack.proofs.search.search.Goals.{else-position-place-via-then-position-place+else-occurs, else-position-place-via-else-position-place}

-- "A list of at most 1,024 octets has at most 128 entries": the hop where the walk stands is at a place below 128
below : (h : List ℕ) (set : List (List ℕ)) (p i k : ℕ) → Sound h → Walked h set p i k → i < length h → k < 128
below h set p i k sound w l =
    omega (arith, on_path h set p i k (get_or h (i + 1) 0) w (here h i w.sound l).front, entries_few h sound, short h sound)

-- what `occurs` told of the part, it told of the hop there
told : (h : List ℕ) (set : List (List ℕ)) (i n : ℕ) (r b : Bool) → r ≡ occurs (take (i + n - i) (drop i h)) set → r ≡ b → occurs (take n (drop i h)) set ≡ b
told h set i n r b e g = ap (λ (x : List ℕ). occurs x set) (sym (part_at h i n)) ∙ sym e ∙ g

pub slice_bounds-occurs-end : goal.slice_bounds-occurs-end
slice_bounds-occurs-end c =
    omega (arith, (here c.args.hops.now c.loop-at.at c.loop-at.invariant.sound c.loop-at-test.true).ends)

pub occurs-requires : goal.occurs-requires
occurs-requires c =
    ((here c.args.hops.now c.loop-at.at c.loop-at.invariant.sound c.loop-at-test.true).long, c.requires.2)

pub overflow_cast-result : goal.overflow_cast-result
overflow_cast-result c =
    omega (arith, below c.args.hops.now (entries_in c.args.set.now) c.args.position c.loop-at.at c.loop-at.place c.requires.1 c.loop-at.invariant c.loop-at-test.true)

pub returns-then-occurs : goal.returns-then-occurs
returns-then-occurs c =
    let h = c.args.hops.now in
    let set = entries_in c.args.set.now in
    let p = c.args.position in
    let i = c.loop-at.at in
    let k = c.loop-at.place in
    let n = get_or h (i + 1) 0 in
    let f = (here h i c.loop-at.invariant.sound c.loop-at-test.true).front in
    answered (entries_in h) set p (some (k - p)) (omega arith)
    (walked_found h set p i k n c.loop-at.invariant f (omega arith) (told h set i n _ true c.occurs.ensures c.if-occurs.true))

pub overflow_add-place : goal.overflow_add-place
overflow_add-place c =
    omega (arith, below c.args.hops.now (entries_in c.args.set.now) c.args.position c.loop-at.at c.loop-at.place c.requires.1 c.loop-at.invariant c.loop-at-test.true)

pub loop-at-smaller : goal.loop-at-smaller
loop-at-smaller c =
    omega (arith, (here c.args.hops.now c.loop-at.at c.loop-at.invariant.sound c.loop-at-test.true).least)

pub loop-at-preserved : goal.loop-at-preserved
loop-at-preserved c =
    let h = c.args.hops.now in
    let set = entries_in c.args.set.now in
    let p = c.args.position in
    let i = c.loop-at.at in
    let k = c.loop-at.place in
    let n = get_or h (i + 1) 0 in
    let f = (here h i c.loop-at.invariant.sound c.loop-at-test.true).front in
    walked_next h set p i k n c.loop-at.invariant f
    (elim c.else-position-place.branch [
      | else-position-place-via-then-position-place+else-occurs w ↦ λ l. told h set i n _ false w.occurs.ensures w.if-occurs.false
      | else-position-place-via-else-position-place w ↦ λ l. absurd (omega arith)
    ])

pub returns : goal.returns
returns c =
    let h = c.args.hops.now in
    let set = entries_in c.args.set.now in
    answered (entries_in h) set c.args.position none (omega arith)
    (walked_all h set c.args.position c.loop-at.at c.loop-at.place c.loop-at.invariant (omega arith))
