-- What a get hears of records that are held.
use Rattle.std.proofs.Common.{◌≡◌, ℕ, ◌+◌, ◌≤◌, Bool, List, [], ◌∷◌, ◌++◌, length, take, drop, Option, Some, None, ap, sym, ◌∙◌, subst, arith, inl, inr}
use Rattle.std.proofs.lemmas.List.{take_at}
use Rattle.aes_gcm.specs.Gcm.{seal}
use Rattle.sealed_record.specs.Sealed.{sealed_form}
use Rattle.sealed_record.proofs.Laws.{texts_are_one}
use Rattle.host_traits.specs.declared.calls.Call.{Call}
use Rattle.host_traits.specs.declared.calls.Call.TheVariants.{BlockRead}
use Rattle.host_traits.specs.declared.calls.Said.{Said}
use Rattle.host_traits.specs.declared.calls.Said.TheVariants.{Bytes}
use Rattle.host_traits.specs.Held.{Held, serve}
use Rattle.host_traits.specs.Told.{Made, Serves, ServesAll, heard_of, exchange_of}
use Rattle.host_traits.specs.Did.{Each, IsIn, reads}
use Rattle.instance_image.specs.declared.values.Part.{Part}
use Rattle.instance_image.specs.Records.{Kept, header_in, size_in, sectors_of}
use Rattle.instance_image.specs.Sealings.{record_key, Sealing, BeginsWith, IsOneOf, OnlySealed}
use Rattle.instance_image.specs.Access.{get_call, IsGetCall}
use Rattle.instance_image.specs.Staying.{HoldsRecords, GetsHearSealed}
use Rattle.instance_image.proofs.Promises.{length-key, read_is}

-- bytes begin with one sealing
one_sealing : (salt secret bytes : List ℕ) (y z : Sealing) → BeginsWith salt secret bytes y → BeginsWith salt secret bytes z → y ≡ z
one_sealing salt secret bytes y z a b =
    let header : y.header ≡ z.header = a.header_is ∙ sym b.header_is in
    let uuid : y.uuid ≡ z.uuid = a.uuid_is ∙ sym b.uuid_is in
    let form : List ℕ = take (size_in (header_in bytes)) (drop 512 bytes) in
    let mine : sealed_form (record_key salt secret z.uuid) y.nonce z.header salt y.text ≡ form = (λ i. sealed_form (record_key salt secret (sym uuid i)) y.nonce (sym header i) salt y.text) ∙ a.sealed in
    let nonce : y.nonce ≡ z.nonce =
    sym (take_at y.nonce (seal (record_key salt secret z.uuid) y.nonce (z.header ++ salt) y.text) 12 a.nonce_len)
    ∙ ap (take 12) (mine ∙ sym b.sealed)
    ∙ take_at z.nonce (seal (record_key salt secret z.uuid) z.nonce (z.header ++ salt) z.text) 12 b.nonce_len in
    let text : y.text ≡ z.text = texts_are_one (record_key salt secret z.uuid) z.header salt form y.text z.text (length-key salt secret z.uuid)
    (record { nonce = y.nonce; nonce_len = a.nonce_len; is = mine }) (record { nonce = z.nonce; nonce_len = b.nonce_len; is = b.sealed }) in
    λ i. record { uuid = uuid i; header = header i; nonce = nonce i; text = text i }

module _ (k : Kept) (secret uuid : List ℕ) (sealings : List Sealing) (h : Held) (records : HoldsRecords h k secret sealings) where
  -- what is answered to a get is the record that is held
  answer_known : (call : Call) (bytes : List ℕ) (after : Held) → IsGetCall k uuid call → serve h call [] ≡ Some (Bytes bytes, after) → (z : Sealing) → BeginsWith k.salt secret bytes z → IsOneOf sealings z
  answer_known call bytes after for served z begins =
      let p : Part = for.part in
      let has = for.has in
      elim (records uuid p has.found) [
        | inl none ↦ absurd (omega (arith, none, has.least))
        | inr one ↦ (
            let holds = one.holds in
            let called : serve h (get_call k p) [] ≡ Some (Bytes bytes, after) = subst (λ (c : Call). serve h c [] ≡ Some (Bytes bytes, after)) for.call_is served in
            let is = read_is h k.disk (k.first + p.sector) (1 + sectors_of p.size) [] holds.disk bytes after holds.is called in
            subst (IsOneOf sealings) (one_sealing k.salt secret bytes one.sealing z (subst (λ (b : List ℕ). BeginsWith k.salt secret b one.sealing) (sym is) holds.begins) begins) one.was)
      ]

  heard_known : (honest : Bool) (own : List Made) (after : Held) → length own ≤ 1 → Each (reads (IsGetCall k uuid)) own → ServesAll honest h own after → OnlySealed k.salt secret sealings (heard_of own)
  heard_known honest [] after few each s z heard = absurd heard.was_heard
  heard_known honest (m ∷ []) after few each s z heard = by_came m.came s.1 heard.was_heard where
    by_came : (came : Option Said) → Serves honest h m.call m.given came s.0 → IsIn (BlockRead heard.disk heard.sector heard.count) (Bytes heard.bytes) (exchange_of m.call came ++ []) → IsOneOf sealings z
    by_came None one i = absurd i
    by_came (Some said) one (inl e) =
        let said_is : Bytes heard.bytes ≡ said = ap (λ (x : Call × Said). x.1) e in
        let told : serve h m.call m.given ≡ Some (Bytes heard.bytes, s.0) = subst (λ (x : Said). serve h m.call m.given ≡ Some (x, s.0)) (sym said_is) one in
        answer_known m.call heard.bytes s.0 each.0.0 (subst (λ (g : List ℕ). serve h m.call g ≡ Some (Bytes heard.bytes, s.0)) each.0.1 told) z heard.begins
    by_came (Some said) one (inr i) = absurd i
  heard_known honest (m ∷ n ∷ own) after few each s z heard = absurd (omega (arith, few))

pub gets_hear_sealed : GetsHearSealed
gets_hear_sealed k secret uuid sealings h after honest own records few each s = heard_known k secret uuid sealings h records honest own after few each s
