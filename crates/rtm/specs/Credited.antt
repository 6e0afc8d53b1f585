-- What remains true when calls with stamps are refused (document 02, W-213; crate `rules`, `Credited`). What is said there of answers and of
-- S holds of these nodes as it stands (`as_stop`); the residences are those of the stamps.
use Rattle.std.specs.Prelude.{ℕ, ◌≡◌, Bool, false, cond, ◌||◌, ℤ, pos, ◌+ℤ◌}
use mathlib.Core.List.{List, [], ◌∷◌, ◌++◌, map, Permᴰ}
use Rattle.std.proofs.Math.ListN.{get_elem?}
use Rattle.stamp.specs.declared.stamps.Stamps.{Stamps}
use Rattle.scratch_pad.specs.Sum.{too_big}
use Rattle.records.specs.declared.Identity.{Identity}
use Rattle.rules.specs.Change.{pad_of}
use Rattle.rules.specs.Rules.{sync, delay_req, delay_resp, kind_of}
use Rattle.rules.specs.Path.{Apart, Every, FirstWay, SecondWay, FollowUps}
use Rattle.rules.specs.Credited.{credited, some_created}
use Rattle.rtm.specs.Stamped.{StampedStop, as_stop, stamps_in, total, units}

-- the stamps of the first message's calls at "exactly the nodes that answered one of the two with updated, created or added", each once
abbrev pub credited_stamps : List StampedStop → List Stamps
credited_stamps [] = []
credited_stamps (n ∷ ns) = cond (credited (as_stop n)) (stamps_in (get_elem? n.events n.first_place)) [] ++ credited_stamps ns

-- the sum for calls with stamps, and S: of a Sync and its Follow_Up
abbrev pub StampedCreditedSum : Type 0
StampedCreditedSum =
    (q : Identity) (s : Bool) (start last : List ℕ) (path : List StampedStop) (first second : ℤ)
    → kind_of start ≡ sync q s
    → Every (Apart q) (map as_stop path)
    → FirstWay start (map as_stop path) last
    → FollowUps q s (map as_stop path) first second
    → too_big (pad_of last) ≡ false
    → too_big second ≡ false
    → (pad_of last +ℤ second ≡ pad_of start +ℤ first +ℤ pos (total units (credited_stamps path)))
    × (kind_of last ≡ sync q (s || some_created (map as_stop path)))

-- and the sum of a Delay_Req and its Delay_Resp
abbrev pub StampedDelayCreditedSum : Type 0
StampedDelayCreditedSum =
    (q : Identity) (request arrived response returned : List ℕ) (path back : List StampedStop)
    → kind_of request ≡ delay_req q
    → kind_of response ≡ delay_resp q
    → Every (Apart q) (map as_stop path)
    → FirstWay request (map as_stop path) arrived
    → Permᴰ back path
    → SecondWay response (map as_stop back) returned
    → too_big (pad_of arrived) ≡ false
    → too_big (pad_of returned) ≡ false
    → pad_of arrived +ℤ pad_of returned ≡ pad_of request +ℤ pad_of response +ℤ pos (total units (credited_stamps path))
