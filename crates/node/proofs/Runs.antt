-- What a call asks of the table has fields in range where its message is octets, and so a list over words runs as the list over slots.
-- Assumes nothing.
use Prim.Native.Nat.{ℕ, suc, ◌+◌}
use mathlib.Core.Path.{◌≡◌, refl, sym, ap, ◌∙◌}
use mathlib.Core.List.{List, [], ◌∷◌}
use mathlib.Core.Option.{some}
use native.Mathlib.Omega.{arith}
use lib.Seq.{get_or-drop}
use Rattle.octets.specs.Octets.{Octets}
use Rattle.message.specs.Read.{message_value, sub_tlv}
use Rattle.records.specs.declared.RecordKind.{RecordKind}
use Rattle.records.specs.declared.Identity.{Identity}
use Rattle.records.specs.Node.{Request, nothing, add, collect, asked, Event, tick, call, switchover}
use Rattle.words.specs.Meaning.{IdentityFits, RequestFits}
use Rattle.words.specs.Runs.{EventsFit}
use Rattle.words.proofs.Runs.{run_means}
use Rattle.rules.specs.Rules.{identity_in, kind_of, kind_identity, Call, rules}
use Rattle.rules.specs.Service.{InOctets}
use Rattle.rules.proofs.Bearing.{taken, sound_ptp, identity_by}
use Rattle.rules.proofs.Laws.{lawful}
use Rattle.node.specs.Runs.{WordsRun}
use Rattle.node.proofs.Handover.{handover_fits}

-- port number and sequence of a sub-TLV, two octets each
sub_tlv_fits : (v : List ℕ) → Octets v → (k : RecordKind) → IdentityFits (identity_in k (sub_tlv v))
sub_tlv_fits v o k = (omega (arith, o 16, o 17), omega (arith, o 18, o 19))

identity_fits : (s : List ℕ) → Octets s → (q : Identity) → kind_identity (kind_of s) ≡ some q → IdentityFits q
identity_fits s o q e =
    let v = message_value s in
    let k = identity_by (sub_tlv v) q (sym (ap kind_identity (taken s (sound_ptp s q e))) ∙ e) in
    rw (← k.1) (sub_tlv_fits v (λ i. rw (get_or-drop 16 s i 0) (o (16 + i))) k.0)

-- a request is for the identity of its call's message
request_fits : (r : Request) → ((q : Identity) → asked r ≡ some q → IdentityFits q) → RequestFits r
request_fits nothing f = tt
request_fits (add q u) f = f q refl
request_fits (collect q) f = f q refl

call_fits : (c : Call) → Octets c.message → RequestFits (rules.request c)
call_fits c o = request_fits (rules.request c) (λ q e. identity_fits c.message o q (lawful.own c q e))

fits : (es : List (Event Call)) → InOctets es → EventsFit rules es
fits [] o = tt
fits (tick ∷ es) o = (tt, fits es (λ k. o (suc k)))
fits (call c ∷ es) o = (call_fits c (o 0 c refl), fits es (λ k. o (suc k)))
fits (switchover ∷ es) o = (handover_fits, fits es (λ k. o (suc k)))

pub words_run : WordsRun
words_run w es l o = run_means rules w es l (fits es o)
