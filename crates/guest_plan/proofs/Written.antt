-- The text of a plan, piece by piece.
use Rattle.std.proofs.Common.{◌≡◌, ℕ, List, [], ◌∷◌, ◌++◌, map, None, refl, sym, ap, subst, ◌∙◌, append_assoc, arith}
use Rattle.std.specs.Prelude.{codes, OnOk, Result, Ok, Err}
use Rattle.std.specs.List.{flat_map}
use Rattle.text_lines.specs.Spelling.{ended, ◌then◌, collect}
use Rattle.guest_plan.specs.declared.plan.PlanLine.{PlanLine}
use Rattle.guest_plan.specs.declared.plan.Item.{Item}
use Rattle.guest_plan.specs.declared.plan.Item.TheVariants.{Line}
use Rattle.guest_plan.specs.Plans.{Known}
use Rattle.guest_plan.specs.Spelling.{line_text, item_text, plan_text, secret_items, salt_items, items_of, IsWritten, IsPlan}

abbrev texts : List Item → List ℕ
texts items = flat_map (λ i. ended (item_text i)) items

texts_map : (items : List Item) → flat_map ended (map item_text items) ≡ texts items
texts_map [] = refl
texts_map (item ∷ items) = ap (λ (x : List ℕ). ended (item_text item) ++ x) (texts_map items)

texts_append : (a b : List Item) → texts (a ++ b) ≡ texts a ++ texts b
texts_append [] b = refl
texts_append (i ∷ a) b = ap (λ (x : List ℕ). ended (item_text i) ++ x) (texts_append a b) ∙ sym (append_assoc (ended (item_text i)) (texts a) (texts b))

texts_lines : (lines : List PlanLine) → texts (map Line lines) ≡ flat_map (λ l. ended (line_text l)) lines
texts_lines [] = refl
texts_lines (l ∷ lines) = ap (λ (x : List ℕ). ended (line_text l) ++ x) (texts_lines lines)

regrouped : (a b c d e : List ℕ) → (((a ++ b) ++ c) ++ d) ++ e ≡ a ++ (b ++ (c ++ (d ++ e)))
regrouped a b c d e = simp append_assoc

pub whole_text : (out : List ℕ) (k : Known) → ((out ++ codes "plan 1\n") ++ texts (secret_items k.secret)) ++ texts (salt_items k.salt) ++ flat_map (λ l. ended (line_text l)) k.lines ≡ out ++ plan_text k
whole_text out k =
    let s = secret_items k.secret in
    let t = salt_items k.salt in
    let l = map Line k.lines in
    let parts : flat_map ended (map item_text (items_of k)) ≡ texts s ++ (texts t ++ flat_map (λ x. ended (line_text x)) k.lines) =
    texts_map (items_of k) ∙ texts_append s (t ++ l) ∙ ap (λ (x : List ℕ). texts s ++ x) (texts_append t l ∙ ap (λ (x : List ℕ). texts t ++ x) (texts_lines k.lines)) in
    let rest : List ℕ = flat_map (λ x. ended (line_text x)) k.lines in
    regrouped out (codes "plan 1\n") (texts s) (texts t) rest ∙ ap (λ (x : List ℕ). out ++ (codes "plan 1\n" ++ x)) (sym parts)

pub written_is : (k : Known) → IsWritten k → IsPlan (plan_text k) k
written_is k h = record { items = record { items = items_of k; each = h.each; few = h.few; text_is = refl; says = h.says }; complete = h.complete }

apk_parts : (old d a rest : List ℕ) → (old ++ (codes "apk" then d then a)) ++ 32 ∷ rest ≡ old ++ (codes "apk" then d then a then rest)
apk_parts old d a rest = simp append_assoc

-- the disk and the first partition, and what stands behind them
pub apk_joined : {T E : Type 0} (r : Result T E) (old mid new d a rest : List ℕ) → mid ≡ old ++ (codes "apk" then d then a) → OnOk r (new ≡ mid ++ 32 ∷ rest) → OnOk r (new ≡ old ++ (codes "apk" then d then a then rest))
apk_joined (Ok x) old mid new d a rest first second = second ∙ ap (λ (t : List ℕ). t ++ 32 ∷ rest) first ∙ apk_parts old d a rest
apk_joined (Err e) old mid new d a rest first second = tt

-- a plan without lines is in the grammar
pub empty_written : (lines : List PlanLine) (numbers : List ℕ) → lines ≡ [] → numbers ≡ [] → IsWritten (record { secret = None; salt = None; lines = lines; numbers = numbers })
unfolding collect
empty_written lines numbers a b =
    subst (λ (x : List PlanLine). IsWritten (record { secret = None; salt = None; lines = x; numbers = numbers })) (sym a)
    (subst (λ (x : List ℕ). IsWritten (record { secret = None; salt = None; lines = []; numbers = x })) (sym b) (record { each = tt; few = omega arith; says = refl; complete = refl }))
