-- What is written, piece by piece.
use Rattle.std.proofs.Common.{◌≡◌, ℕ, zero, suc, ◌+◌, ◌-◌, ◌*◌, ◌<◌, ◌≤◌, List, [], ◌∷◌, ◌++◌, length, get_or, drop, replicate, refl, sym, ap, ◌∙◌, arith, append_assoc, append-nil}
use Rattle.std.proofs.lemmas.List.{at_drop_more, at_drop_all, replicate-append-replicate, length-replicate}
use Rattle.guid_crc.specs.Guids.{Guid}
use Rattle.guid_crc.specs.Remainder.{crc32}
use Rattle.gpt.specs.declared.header.Header.{Header}
use Rattle.std.proofs.lemmas.List.Concat.{flat_map-append}
use Rattle.gpt.specs.declared.values.Entry.{Entry}
use Rattle.gpt.specs.declared.image.Part.{Part}
use Rattle.gpt.specs.Entries.{entry_text, array_text}
use Rattle.gpt.specs.Image.{zeros, unused, entry_for, placed, taken, all_entries, plain_header, sealed, primary_header, alternate_header, head_with, tail_with, head_bytes, tail_bytes}

-- no part
abbrev pub none : Part
none = record { name = []; unique = record { 0 = [] }; sectors = 0 }

pub taken-drop : (ps : List Part) (i : ℕ) → i < length ps → taken (drop i ps) ≡ (get_or ps i none).sectors + taken (drop (i + 1) ps)
unfolding taken
taken-drop ps i lt = at_drop_more taken ps i none lt

pub taken-end : (ps : List Part) (i : ℕ) → length ps ≤ i → taken (drop i ps) ≡ 0
unfolding taken
taken-end ps i le = at_drop_all taken ps i le

pub placed-drop : (first : ℕ) (ps : List Part) (i : ℕ) → i < length ps
    → placed first (drop i ps) ≡ entry_for first (get_or ps i none) ∷ placed (first + (get_or ps i none).sectors) (drop (i + 1) ps)
unfolding placed
placed-drop first ps i lt = at_drop_more (placed first) ps i none lt

pub placed-end : (first : ℕ) (ps : List Part) (i : ℕ) → length ps ≤ i → placed first (drop i ps) ≡ []
unfolding placed
placed-end first ps i le = at_drop_all (placed first) ps i le

-- one part more
pub part_more : (old new all : List ℕ) (first i : ℕ) (ps : List Part) (e : Entry) → i < length ps
    → e ≡ entry_for first (get_or ps i none) → new ≡ old ++ entry_text e
    → old ++ array_text (placed first (drop i ps)) ≡ all
    → new ++ array_text (placed (first + (get_or ps i none).sectors) (drop (i + 1) ps)) ≡ all
part_more old new all first i ps e lt is added before =
    let tail = array_text (placed (first + (get_or ps i none).sectors) (drop (i + 1) ps)) in
    ap (λ (v : List ℕ). v ++ tail) (added ∙ ap (λ (x : Entry). old ++ entry_text x) is)
    ∙ append_assoc old (entry_text (entry_for first (get_or ps i none))) tail
    ∙ ap (λ (es : List Entry). old ++ array_text es) (sym (placed-drop first ps i lt))
    ∙ before

pub parts_done : (old all : List ℕ) (first i : ℕ) (ps : List Part) → length ps ≤ i → old ++ array_text (placed first (drop i ps)) ≡ all → old ≡ all
parts_done old all first i ps le before =
    sym (append-nil old) ∙ ap (λ (es : List Entry). old ++ array_text es) (sym (placed-end first ps i le)) ∙ before

unused_text : entry_text unused ≡ zeros 128
unfolding entry_text zeros
unused_text = refl

zeros-add : (n m : ℕ) → zeros n ++ zeros m ≡ zeros (n + m)
unfolding zeros
zeros-add n m = replicate-append-replicate n m 0

pub zeros-length : (n : ℕ) → length (zeros n) ≡ n
unfolding zeros
zeros-length n = length-replicate {A = ℕ} n 0

no_zeros : [] ≡ zeros (128 * 0)
unfolding zeros
no_zeros = refl

pub array_text-unused : (k : ℕ) → array_text (replicate k unused) ≡ zeros (128 * k)
array_text-unused zero = no_zeros
array_text-unused (suc k) =
    let more : 128 + 128 * k ≡ 128 * suc k = omega arith in
    (λ i. unused_text i ++ array_text-unused k i) ∙ zeros-add 128 (128 * k) ∙ ap zeros more

pub array_done : (out placed_out : List ℕ) (ps : List Part) → placed_out ≡ array_text (placed 40 ps)
    → out ≡ placed_out ++ zeros (128 * (128 - length ps)) → out ≡ array_text (all_entries ps)
array_done out placed_out ps first second =
    second ∙ (λ i. first i ++ sym (array_text-unused (128 - length ps)) i)
    ∙ sym (flat_map-append entry_text (placed 40 ps) (replicate (128 - length ps) unused))

-- the two ends, from what their parts are
pub head_is : (sum crc : ℕ) (head array : List ℕ) (p q : Header) (disk : Guid) (ps : List Part)
    → sum ≡ taken ps → array ≡ array_text (all_entries ps) → crc ≡ crc32 array
    → q ≡ plain_header 1 (sum + 79) 2 disk sum crc → p ≡ sealed q → head ≡ head_with (sum + 80) p array → head ≡ head_bytes disk ps
unfolding head_bytes
head_is sum crc head array p q disk ps es ea ec eq ep eh =
    let code = ec ∙ ap crc32 ea in
    let header : p ≡ primary_header disk ps = ep ∙ ap sealed (eq ∙ (λ i. plain_header 1 (es i + 79) 2 disk (es i) (code i))) in
    eh ∙ (λ i. head_with (es i + 80) (header i) (ea i))

pub tail_is : (sum crc : ℕ) (tail array : List ℕ) (p q : Header) (disk : Guid) (ps : List Part)
    → sum ≡ taken ps → array ≡ array_text (all_entries ps) → crc ≡ crc32 array
    → q ≡ plain_header (sum + 79) 1 (sum + 47) disk sum crc → p ≡ sealed q → tail ≡ tail_with p array → tail ≡ tail_bytes disk ps
unfolding tail_bytes
tail_is sum crc tail array p q disk ps es ea ec eq ep et =
    let code = ec ∙ ap crc32 ea in
    let header : p ≡ alternate_header disk ps = ep ∙ ap sealed (eq ∙ (λ i. plain_header (es i + 79) 1 (es i + 47) disk (es i) (code i))) in
    et ∙ (λ i. tail_with (header i) (ea i))

pub taken-replicate : (n : ℕ) (p : Part) → taken (replicate n p) ≡ n * p.sectors
unfolding taken
taken-replicate zero p = omega arith
taken-replicate (suc n) p = omega (arith, taken-replicate n p)
