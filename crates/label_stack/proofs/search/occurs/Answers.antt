-- `occurs` meets its contract: the entries before where the walk stands are others, and the rest decides.
use Rattle.std.proofs.Common.{◌≡◌, ℕ, ◌+◌, ◌-◌, Bool, true, false, ◌||◌, List, take, drop, get_or, sym, ap, ◌∙◌, arith}
use Rattle.rtm_set.specs.Entries.{entries_in, Sound}
use Rattle.rtm_set.proofs.Rest.{Front}
use Rattle.label_stack.specs.Ttl.{same_address, occurs}
use Rattle.label_stack.proofs.Walk.{part_at, here, sound_behind, entries_behind}
use Rattle.label_stack.proofs.search.occurs.Goals as goal

-- where the walk stands, the entry there decides, or the rest
either :
    (hop s : List ℕ) (i n : ℕ) (b : Bool)
    → Sound (drop i s)
    → occurs hop (entries_in s) ≡ occurs hop (entries_in (drop i s))
    → Front (drop i s) n
    → b ≡ same_address hop (take (i + n - i) (drop i s))
    → occurs hop (entries_in s) ≡ b || occurs hop (entries_in (drop (i + n) s))
either hop s i n b sound same f e =
    same
    ∙ ap (occurs hop) (entries_behind s i n sound f)
    ∙ ap (λ (x : Bool). x || occurs hop (entries_in (drop (i + n) s))) (sym (e ∙ ap (same_address hop) (part_at s i n)))

pub slice_bounds-same_address-end : goal.slice_bounds-same_address-end
slice_bounds-same_address-end c = omega (arith, (here c.args.set.now c.loop-at.at c.loop-at.invariant.0 c.loop-at-test.true).ends)

pub same_address-requires : goal.same_address-requires
same_address-requires c = (c.requires.0, (here c.args.set.now c.loop-at.at c.loop-at.invariant.0 c.loop-at-test.true).long)

pub returns-then-same_address : goal.returns-then-same_address
returns-then-same_address c =
    let s = c.args.set.now in
    let i = c.loop-at.at in
    let sound = c.loop-at.invariant.0 in
    sym (either c.args.hop.now s i (get_or s (i + 1) 0) true sound c.loop-at.invariant.1 (here s i sound c.loop-at-test.true).front (sym c.if-same_address.true ∙ c.same_address.ensures))

pub loop-at-smaller : goal.loop-at-smaller
loop-at-smaller c = omega (arith, (here c.args.set.now c.loop-at.at c.loop-at.invariant.0 c.loop-at-test.true).least)

pub loop-at-preserved : goal.loop-at-preserved
loop-at-preserved c =
    let s = c.args.set.now in
    let i = c.loop-at.at in
    let n = get_or s (i + 1) 0 in
    let sound = c.loop-at.invariant.0 in
    let f = (here s i sound c.loop-at-test.true).front in (
      sound_behind s i n sound f,
      either c.args.hop.now s i n false sound c.loop-at.invariant.1 f (sym c.if-same_address.false ∙ c.same_address.ensures),
    )
