-- What a node makes of each PTPType, whatever its S: 0 Sync, 1 Delay_Req, 2 and 3 timed, 8 Follow_Up, 9 Delay_Resp, the others untimed.
-- Assumes nothing.
use Prim.Native.Nat.{ℕ}
use mathlib.Core.Path.{◌≡◌, refl}
use mathlib.Core.Bool.{Bool}
use mathlib.Core.List.{[], ◌∷◌, map}
use Rattle.message.specs.declared.fields.SubTlv.{SubTlv}
use Rattle.records.specs.declared.RecordKind.{RecordKind}
use Rattle.records.specs.declared.RecordKind.TheVariants.{Sync, Delay}
use Rattle.records.specs.declared.Identity.{Identity}
use Rattle.rules.specs.Rules.{sync, follow_up, delay_req, delay_resp, timed, untimed, ptp_kind}

abbrev of_type : Bool → ℕ → SubTlv
of_type s k = record { length = 20; two_step = s; ptp_type = k; clock = 7; port = 1; sequence = 258 }

abbrev named : RecordKind → Identity
named k = record { kind = k; clock = 7; port = 1; sequence = 258 }

types :
    (s : Bool)
    → map (λ (k : ℕ). ptp_kind (of_type s k)) (0 ∷ 1 ∷ 2 ∷ 3 ∷ 4 ∷ 5 ∷ 6 ∷ 7 ∷ 8 ∷ 9 ∷ 10 ∷ 11 ∷ 12 ∷ 13 ∷ 14 ∷ 15 ∷ [])
    ≡ sync (named Sync) s ∷ delay_req (named Delay) ∷ timed ∷ timed ∷ untimed ∷ untimed ∷ untimed ∷ untimed
    ∷ follow_up (named Sync) ∷ delay_resp (named Delay) ∷ untimed ∷ untimed ∷ untimed ∷ untimed ∷ untimed ∷ untimed ∷ []
types s = refl
