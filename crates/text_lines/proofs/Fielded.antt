-- Fields and lines: what is cut is joined, and what is joined is cut.
use Rattle.std.proofs.Common.{◌≡◌, ℕ, List, [], ◌∷◌, ◌++◌, Bool, true, false, not, cond, eqb, Option, Some, None, Ok, refl, sym, ap, subst, ◌∙◌, append_assoc}
use Rattle.std.proofs.lemmas.Bool.{eqb-true, eq-eqb, not-true}
use Rattle.std.specs.List.{list_all, flat_map}
use Rattle.text_lines.specs.Fields.{◌>>=◌, cut, with_first, first_or, first_field, field, field_from, last_field, last_from, two_fields, three_fields, four_fields, five_fields}
use Rattle.text_lines.specs.Lines.{lines_of, on_front}
use Rattle.text_lines.specs.Spelling.{◌then◌, ended}
use Rattle.text_lines.proofs.Spelled.{both}
use Rattle.text_lines.proofs.Cuts.{line_is}
use Rattle.text_lines.proofs.Numbers.{bind_ok}

-- ---- cuts

abbrev Cut : Type 0
Cut = Option (List ℕ × List ℕ)

abbrev some : List ℕ × List ℕ → Cut
some p = Some p

some_is : (p q : List ℕ × List ℕ) → some p ≡ some q → p ≡ q
some_is p q e = cc

abbrev pub Joins : ℕ → List ℕ → List ℕ × List ℕ → Type 0
Joins at bytes p = bytes ≡ p.0 ++ at ∷ p.1

joined_first : (t : Bool) (at b : ℕ) (bs : List ℕ) (o : Cut) (p : List ℕ × List ℕ) → (t ≡ true → b ≡ at) → ((q : List ℕ × List ℕ) → o ≡ some q → Joins at bs q)
    → cond t (some ([], bs)) (with_first b o) ≡ some p → Joins at (b ∷ bs) p
joined_first true at b bs o p same known e = subst (Joins at (b ∷ bs)) (some_is ([], bs) p e) (ap (λ (x : ℕ). x ∷ bs) (same refl))
joined_first false at b bs None p same known e = absurd cc
joined_first false at b bs (Some q) p same known e = subst (Joins at (b ∷ bs)) (some_is (b ∷ q.0, q.1) p e) (ap (λ (x : List ℕ). b ∷ x) (known q refl))

pub cut_joins : (at : ℕ) (bytes : List ℕ) (p : List ℕ × List ℕ) → cut at bytes ≡ some p → Joins at bytes p
cut_joins at [] p e = absurd cc
cut_joins at (b ∷ bs) p e = joined_first (eqb b at) at b bs (cut at bs) p (eqb-true b at) (λ q h. cut_joins at bs q h) e

-- no byte is `at`
abbrev pub is_free : ℕ → List ℕ → Bool
is_free at bytes = list_all (λ b. not (eqb b at)) bytes

same_eqb : (n : ℕ) → eqb n n ≡ true
same_eqb n = eq-eqb n n refl

pub cut_again : (at : ℕ) (front rest : List ℕ) → is_free at front ≡ true → cut at (front ++ at ∷ rest) ≡ some (front, rest)
cut_again at [] rest h = rw (same_eqb at) refl
cut_again at (b ∷ front) rest h =
    let k = both (not (eqb b at)) (is_free at front) h in
    rw (not-true (eqb b at) k.0, cut_again at front rest k.1) refl

pub uncut_again : (at : ℕ) (bytes : List ℕ) → is_free at bytes ≡ true → cut at bytes ≡ None
uncut_again at [] h = refl
uncut_again at (b ∷ bytes) h =
    let k = both (not (eqb b at)) (is_free at bytes) h in
    rw (not-true (eqb b at) k.0, uncut_again at bytes k.1) refl

-- ---- fields

field_ok : (o : Cut) (p : List ℕ × List ℕ) → field_from o ≡ Ok p → o ≡ some p
field_ok None p e = absurd cc
field_ok (Some q) p e = cc

last_ok : (rest x : List ℕ) (o : Cut) → last_from rest o ≡ Ok x → rest ≡ x
last_ok rest x None e = cc
last_ok rest x (Some q) e = absurd cc

-- the line, and its first field, which is the word
abbrev pub HasFields : List ℕ → List ℕ → List ℕ → Type 0
HasFields line word rest = (line ≡ word then rest) × (first_field line ≡ word)

pub field_takes : (line : List ℕ) (p : List ℕ × List ℕ) → field line ≡ Ok p → HasFields line p.0 p.1
unfolding field first_field
field_takes line p e =
    let c = field_ok (cut 32 line) p e in
    (cut_joins 32 line p c, ap (first_or line) c)

pub last_takes : (rest x : List ℕ) → last_field rest ≡ Ok x → rest ≡ x
unfolding last_field
last_takes rest x e = last_ok rest x (cut 32 rest) e

pub two_take : (line : List ℕ) (f : List ℕ × List ℕ) → two_fields line ≡ Ok f → HasFields line f.0 f.1
unfolding two_fields
two_take line f e =
    let a = bind_ok (field line) (λ word. last_field word.1 >>= λ first. Ok (word.0, first)) f e in
    let b = bind_ok (last_field a.0.1) (λ first. Ok (a.0.0, first)) f a.2 in
    let made : List ℕ × List ℕ = (a.0.0, b.0) in
    let same : made ≡ f = cc (b.2) in
    let last : a.0.1 ≡ b.0 = last_takes a.0.1 b.0 b.1 in
    let h = field_takes line a.0 a.1 in
    subst (λ (x : List ℕ × List ℕ). HasFields line x.0 x.1) same (h.0 ∙ ap (λ (x : List ℕ). a.0.0 then x) last, h.1)

abbrev Two : Type 0
Two = List ℕ × List ℕ

abbrev Three : Type 0
Three = List ℕ × List ℕ × List ℕ

abbrev Four : Type 0
Four = List ℕ × List ℕ × List ℕ × List ℕ

abbrev Five : Type 0
Five = List ℕ × List ℕ × List ℕ × List ℕ × List ℕ

pub three_take : (line : List ℕ) (f : Three) → three_fields line ≡ Ok f → HasFields line f.0 (f.1 then f.2)
unfolding three_fields
three_take line f e =
    let a = bind_ok (field line) (λ word. two_fields word.1 >>= λ rest. Ok (word.0, rest.0, rest.1)) f e in
    let b = bind_ok (two_fields a.0.1) (λ rest. Ok (a.0.0, rest.0, rest.1)) f a.2 in
    let made : Three = (a.0.0, b.0.0, b.0.1) in
    let same : made ≡ f = cc (b.2) in
    let h = field_takes line a.0 a.1 in
    subst (λ (x : Three). HasFields line x.0 (x.1 then x.2)) same (h.0 ∙ ap (λ (x : List ℕ). a.0.0 then x) (two_take a.0.1 b.0 b.1).0, h.1)

pub four_take : (line : List ℕ) (f : Four) → four_fields line ≡ Ok f → HasFields line f.0 (f.1 then f.2 then f.3)
unfolding four_fields
four_take line f e =
    let a = bind_ok (field line) (λ word. three_fields word.1 >>= λ rest. Ok (word.0, rest.0, rest.1, rest.2)) f e in
    let b = bind_ok (three_fields a.0.1) (λ rest. Ok (a.0.0, rest.0, rest.1, rest.2)) f a.2 in
    let made : Four = (a.0.0, b.0.0, b.0.1, b.0.2) in
    let same : made ≡ f = cc (b.2) in
    let h = field_takes line a.0 a.1 in
    subst (λ (x : Four). HasFields line x.0 (x.1 then x.2 then x.3)) same (h.0 ∙ ap (λ (x : List ℕ). a.0.0 then x) (three_take a.0.1 b.0 b.1).0, h.1)

pub five_take : (line : List ℕ) (f : Five) → five_fields line ≡ Ok f → HasFields line f.0 (f.1 then f.2 then f.3 then f.4)
unfolding five_fields
five_take line f e =
    let a = bind_ok (field line) (λ word. four_fields word.1 >>= λ rest. Ok (word.0, rest.0, rest.1, rest.2, rest.3)) f e in
    let b = bind_ok (four_fields a.0.1) (λ rest. Ok (a.0.0, rest.0, rest.1, rest.2, rest.3)) f a.2 in
    let made : Five = (a.0.0, b.0.0, b.0.1, b.0.2, b.0.3) in
    let same : made ≡ f = cc (b.2) in
    let h = field_takes line a.0 a.1 in
    subst (λ (x : Five). HasFields line x.0 (x.1 then x.2 then x.3 then x.4)) same (h.0 ∙ ap (λ (x : List ℕ). a.0.0 then x) (four_take a.0.1 b.0 b.1).0, h.1)

abbrev pub Free : List ℕ → Type 0
Free x = is_free 32 x ≡ true

pub first_again : (w rest : List ℕ) → Free w → first_field (w then rest) ≡ w
unfolding first_field
first_again w rest h = ap (first_or (w then rest)) (cut_again 32 w rest h)

pub field_again : (w rest : List ℕ) → Free w → field (w then rest) ≡ Ok (w, rest)
unfolding field
field_again w rest h = ap field_from (cut_again 32 w rest h)

pub last_again : (x : List ℕ) → Free x → last_field x ≡ Ok x
unfolding last_field
last_again x h = ap (last_from x) (uncut_again 32 x h)

pub two_again : (w a : List ℕ) → Free w → Free a → two_fields (w then a) ≡ Ok (w, a)
unfolding two_fields
two_again w a hw ha = rw (field_again w a hw, last_again a ha) refl

pub three_again : (w a b : List ℕ) → Free w → Free a → Free b → three_fields (w then a then b) ≡ Ok (w, a, b)
unfolding three_fields
three_again w a b hw ha hb = rw (field_again w (a then b) hw, two_again a b ha hb) refl

pub four_again : (w a b c : List ℕ) → Free w → Free a → Free b → Free c → four_fields (w then a then b then c) ≡ Ok (w, a, b, c)
unfolding four_fields
four_again w a b c hw ha hb hc = rw (field_again w (a then b then c) hw, three_again a b c ha hb hc) refl

pub five_again : (w a b c d : List ℕ) → Free w → Free a → Free b → Free c → Free d → five_fields (w then a then b then c then d) ≡ Ok (w, a, b, c, d)
unfolding five_fields
five_again w a b c d hw ha hb hc hd = rw (field_again w (a then b then c then d) hw, four_again a b c d ha hb hc hd) refl

-- ---- lines

abbrev Lines : Type 0
Lines = List (List ℕ) × List ℕ

abbrev joined : Lines → List ℕ
joined x = flat_map ended x.0 ++ x.1

front_joins : (b : ℕ) (lines : List (List ℕ)) (rest : List ℕ) → joined (on_front b lines rest) ≡ b ∷ joined (lines, rest)
front_joins b [] rest = refl
front_joins b (line ∷ lines) rest = refl

next_joins : (t : Bool) (b : ℕ) (x : Lines) (bs : List ℕ) → (t ≡ true → b ≡ 10) → bs ≡ joined x → let ended_here : Lines = ([] ∷ x.0, x.1) in b ∷ bs ≡ joined (cond t ended_here (on_front b x.0 x.1))
next_joins true b x bs same e = ap (λ (n : ℕ). n ∷ bs) (same refl) ∙ ap (λ (y : List ℕ). 10 ∷ y) e
next_joins false b x bs same e = ap (λ (y : List ℕ). b ∷ y) e ∙ sym (front_joins b x.0 x.1)

-- a text is its lines, and what stands behind them
pub lines_join : (bytes : List ℕ) → bytes ≡ flat_map ended (lines_of bytes).0 ++ (lines_of bytes).1
lines_join [] = refl
lines_join (b ∷ bs) = next_joins (eqb b 10) b (lines_of bs) bs (eqb-true b 10) (lines_join bs)

-- what no line feed is in
abbrev pub OneLine : List ℕ → Type 0
OneLine x = is_free 10 x ≡ true

pub lines_again : (line rest : List ℕ) → OneLine line → let made : Lines = (line ∷ (lines_of rest).0, (lines_of rest).1) in lines_of (ended line ++ rest) ≡ made
lines_again line rest h =
    let regrouped : ended line ++ rest ≡ line ++ 10 ∷ rest = append_assoc line (10 ∷ []) rest in
    ap lines_of regrouped ∙ line_is (line ++ 10 ∷ rest) (line, rest) (cut_again 10 line rest h)
