-- What is read is spelled so, and what is spelled so is read.
use Rattle.std.proofs.Common.{◌≡◌, ℕ, ◌+◌, ◌-◌, ◌^◌, ◌<◌, ◌≤◌, List, [], ◌∷◌, ◌++◌, length, get_or, take, drop, Result, Ok, min, refl, sym, ap, subst, ◌∙◌, arith, append_assoc}
use Rattle.std.specs.Prelude.{ℤ, pos}
use Rattle.std.proofs.lemmas.List.{take-append-drop, drop-drop, length-append, length-take, length-drop}
use Rattle.std.proofs.lemmas.Bool.{eq-eqb, le-ltb}
use Rattle.std.proofs.Math.Seq.{take-append-add}
use Rattle.std.proofs.lemmas.List.{append-nil}
use Rattle.mg_base.specs.declared.values.Digest.{Digest}
use Rattle.idsig_v4.specs.declared.head.Head.{Head}
use Rattle.idsig_v4.specs.declared.head.IdsigFault.{IdsigFault}
use Rattle.idsig_v4.specs.declared.head.IdsigFault.TheVariants.{Version, InfoLength, Algorithm, SaltLength, RootLength, SigningLength}
use Rattle.idsig_v4.specs.Grammar.{int32, front_bytes, IsFront, IsIdsig, idsig_bytes, head_for}
use Rattle.idsig_v4.specs.Reading.{bytes_at, i32_at, at_most, exactly, not_negative, block_size, tree_size, room_for, info_of, head_of}
use Rattle.idsig_v4.proofs.Sizes.{length_int32, length_front, flat}
use Rattle.idsig_v4.proofs.Steps.{AreBytes, with_ok, bytes_at_ok, exactly_ok, at_most_ok, block_size_ok, tree_size_ok, room_for_ok, number_is, part_length, bytes_here, behind, number_here, room_is, tree_size_is}

-- ---- what is read is spelled so

-- what was read of the version and the hashing info
record InfoRead (b : List ℕ) (total : ℕ) (salt root : List ℕ) : Type 0 where
  s : ℕ
  few : s ≤ 32
  version : i32_at b total 0 ≡ Ok (pos 2)
  size : i32_at b total 4 ≡ Ok (pos (45 + s))
  algorithm : i32_at b total 8 ≡ Ok (pos 1)
  block : (x : List ℕ) × (bytes_at b total 12 1 ≡ Ok x) × (get_or x 0 0 ≡ 12)
  salt_size : i32_at b total 13 ≡ Ok (pos s)
  salt_is : bytes_at b total 17 s ≡ Ok salt
  root_size : i32_at b total (17 + s) ≡ Ok (pos 32)
  root_is : bytes_at b total (21 + s) 32 ≡ Ok root

pair_is : (salt root : List ℕ) (x : List ℕ × List ℕ) → ◌≡◌ {A = Result (List ℕ × List ℕ) IdsigFault} (Ok (salt, root)) (Ok x) → (salt ≡ x.0) × (root ≡ x.1)
pair_is salt root x e = let same : (salt, root) ≡ x = cc in (ap (λ (y : List ℕ × List ℕ). y.0) same, ap (λ (y : List ℕ × List ℕ). y.1) same)

ok_is : (built h : Head) → ◌≡◌ {A = Result Head IdsigFault} (Ok built) (Ok h) → built ≡ h
ok_is built h e = cc

info_read : (b : List ℕ) (total : ℕ) (x : List ℕ × List ℕ) → info_of b total ≡ Ok x → InfoRead b total x.0 x.1
unfolding info_of
info_read b total x e =
    with_ok (i32_at b total 0) _ x (InfoRead b total x.0 x.1) e (λ version v e1.
    with_ok (exactly 2 (Version version) version) _ x (InfoRead b total x.0 x.1) e1 (λ two t e2.
    with_ok (i32_at b total 4) _ x (InfoRead b total x.0 x.1) e2 (λ info i e3.
    with_ok (not_negative (InfoLength info) info) _ x (InfoRead b total x.0 x.1) e3 (λ size z e4.
    with_ok (i32_at b total 8) _ x (InfoRead b total x.0 x.1) e4 (λ algorithm a e5.
    with_ok (exactly 1 (Algorithm algorithm) algorithm) _ x (InfoRead b total x.0 x.1) e5 (λ one o e6.
    with_ok (bytes_at b total 12 1) _ x (InfoRead b total x.0 x.1) e6 (λ block k e7.
    with_ok (block_size block) _ x (InfoRead b total x.0 x.1) e7 (λ log l e8.
    with_ok (i32_at b total 13) _ x (InfoRead b total x.0 x.1) e8 (λ salt_size ss e9.
    with_ok (at_most 32 (SaltLength salt_size) salt_size) _ x (InfoRead b total x.0 x.1) e9 (λ s sz e10.
    with_ok (bytes_at b total 17 s) _ x (InfoRead b total x.0 x.1) e10 (λ salt sb e11.
    with_ok (i32_at b total (17 + s)) _ x (InfoRead b total x.0 x.1) e11 (λ root_size rs e12.
    with_ok (exactly 32 (RootLength root_size) root_size) _ x (InfoRead b total x.0 x.1) e12 (λ r rz e13.
    with_ok (bytes_at b total (21 + s) 32) _ x (InfoRead b total x.0 x.1) e13 (λ root rb e14.
    with_ok (exactly (45 + s) (InfoLength info) info) _ x (InfoRead b total x.0 x.1) e14 (λ whole w e15.
    let small = at_most_ok 32 (SaltLength salt_size) salt_size s sz in
    let is : (z : ℤ) (y : ℤ) (at : ℕ) → i32_at b total at ≡ Ok z → z ≡ y → i32_at b total at ≡ Ok y = λ z y at f g. f ∙ ap (λ (v : ℤ). Ok v) g in
    record {
      s = s;
      few = small.1;
      version = is version (pos 2) 0 v (exactly_ok 2 (Version version) version two t);
      size = is info (pos (45 + s)) 4 i (exactly_ok (45 + s) (InfoLength info) info whole w);
      algorithm = is algorithm (pos 1) 8 a (exactly_ok 1 (Algorithm algorithm) algorithm one o);
      block = (block, k, block_size_ok block log l);
      salt_size = is salt_size (pos s) 13 ss small.0;
      salt_is = sb ∙ ap (λ (y : List ℕ). Ok y) (pair_is salt root x e15).0;
      root_size = is root_size (pos 32) (17 + s) rs (exactly_ok 32 (RootLength root_size) root_size r rz);
      root_is = rb ∙ ap (λ (y : List ℕ). Ok y) (pair_is salt root x e15).1;
    })))))))))))))))

cut : (n m : ℕ) (b x : List ℕ) → take m (drop n b) ≡ x → drop n b ≡ x ++ drop (n + m) b
cut n m b x e = sym (take-append-drop m (drop n b)) ∙ ap (λ (y : List ℕ). y ++ drop m (drop n b)) e ∙ ap (λ (y : List ℕ). x ++ y) (drop-drop m n b)

one_byte : (b : List ℕ) (v : ℕ) → 0 < length b → get_or (take 1 b) 0 0 ≡ v → take 1 b ≡ v ∷ []
one_byte [] v h e = absurd (omega arith)
one_byte (x ∷ b) v h e = ap (λ (y : ℕ). y ∷ []) e

-- the fields up to the end of the hashing info, and what follows
record IsInfo (b salt root : List ℕ) : Type 0 where
  few : length salt ≤ 32
  root_len : length root ≡ 32
  room : 53 + length salt ≤ length b
  joined : b ≡ int32 2 ++ (int32 (45 + length salt) ++ (int32 1 ++ (12 ∷ (int32 (length salt) ++ (salt ++ (int32 32 ++ (root ++ drop (53 + length salt) b)))))))

info_spelled : (b : List ℕ) (total : ℕ) (salt root : List ℕ) → length b ≡ min total 69632 → AreBytes b → InfoRead b total salt root → IsInfo b salt root
info_spelled b total salt root len fits r =
    let s : ℕ = r.s in
    let few : s ≤ 32 = r.few in
    let last = bytes_at_ok b total (21 + s) 32 root r.root_is in
    let room : 53 + s ≤ length b = omega (arith, last.0) in
    let salt_is = (bytes_at_ok b total 17 s salt r.salt_is).1 in
    let salt_len : length salt ≡ s = sym (ap length salt_is) ∙ part_length 17 s b (omega arith) in
    let block = r.block in
    let block_is = (bytes_at_ok b total 12 1 block.0 block.1).1 in
    let twelve : take 1 (drop 12 b) ≡ 12 ∷ [] = one_byte (drop 12 b) 12 (omega (arith, length-drop 12 b)) (ap (λ (y : List ℕ). get_or y 0 0) block_is ∙ block.2) in
    let p0 = cut 0 4 b (int32 2) (number_is b total 0 2 fits (omega arith) r.version).0 in
    let p1 = cut 4 4 b (int32 (45 + s)) (number_is b total 4 (45 + s) fits (omega arith) r.size).0 in
    let p2 = cut 8 4 b (int32 1) (number_is b total 8 1 fits (omega arith) r.algorithm).0 in
    let p3 = cut 12 1 b (12 ∷ []) twelve in
    let p4 = cut 13 4 b (int32 s) (number_is b total 13 s fits (omega arith) r.salt_size).0 in
    let p5 = cut 17 s b salt salt_is in
    let p6 = cut (17 + s) 4 b (int32 32) (number_is b total (17 + s) 32 fits (omega arith) r.root_size).0 in
    let p7 = cut (21 + s) 32 b root last.1 in
    let at6 : drop (17 + s + 4) b ≡ drop (21 + s) b = ap (λ (n : ℕ). drop n b) (omega arith) in
    let at7 : drop (21 + s + 32) b ≡ drop (53 + s) b = ap (λ (n : ℕ). drop n b) (omega arith) in
    let whole : b ≡ int32 2 ++ (int32 (45 + s) ++ (int32 1 ++ (12 ∷ (int32 s ++ (salt ++ (int32 32 ++ (root ++ drop (53 + s) b))))))) =
    p0 ∙ ap (λ (x : List ℕ). int32 2 ++ x) (p1 ∙ ap (λ (x : List ℕ). int32 (45 + s) ++ x) (p2 ∙ ap (λ (x : List ℕ). int32 1 ++ x) (p3 ∙ ap (λ (x : List ℕ). 12 ∷ x) (p4 ∙ ap (λ (x : List ℕ). int32 s ++ x)
    (p5 ∙ ap (λ (x : List ℕ). salt ++ x) (p6 ∙ ap (λ (x : List ℕ). int32 32 ++ x) (at6 ∙ p7 ∙ ap (λ (x : List ℕ). root ++ x) at7))))))) in
    record {
      few = omega (arith, salt_len);
      root_len = sym (ap length last.1) ∙ part_length (21 + s) 32 b (omega arith);
      room = omega (arith, salt_len);
      joined = subst (λ (n : ℕ). b ≡ int32 2 ++ (int32 (45 + n) ++ (int32 1 ++ (12 ∷ (int32 n ++ (salt ++ (int32 32 ++ (root ++ drop (53 + n) b)))))))) (sym salt_len) whole;
    }

-- what was read of a head
record HeadRead (b : List ℕ) (total : ℕ) (h : Head) : Type 0 where
  info : InfoRead b total h.salt h.root.0
  g : ℕ
  few : g ≤ 65536
  signing_size : i32_at b total (53 + length h.salt) ≡ Ok (pos g)
  signing : List ℕ
  signing_is : bytes_at b total (53 + length h.salt + 4) g ≡ Ok signing
  tree_size : i32_at b total (53 + length h.salt + 4 + g) ≡ Ok (pos h.tree_len)
  some : 0 < h.tree_len
  tree_at : h.tree_at ≡ 53 + length h.salt + 4 + g + 4
  room : 53 + length h.salt + 4 + g + 4 + h.tree_len ≤ total

head_read : (b : List ℕ) (total : ℕ) (h : Head) → head_of b total ≡ Ok h → HeadRead b total h
unfolding head_of
head_read b total h e =
    with_ok (info_of b total) _ h (HeadRead b total h) e (λ info i e1.
    with_ok (i32_at b total (53 + length info.0)) _ h (HeadRead b total h) e1 (λ size z e2.
    with_ok (at_most 65536 (SigningLength size) size) _ h (HeadRead b total h) e2 (λ g gs e3.
    with_ok (bytes_at b total (53 + length info.0 + 4) g) _ h (HeadRead b total h) e3 (λ signing sb e4.
    with_ok (tree_size b total (53 + length info.0 + 4 + g)) _ h (HeadRead b total h) e4 (λ t ts e5.
    with_ok (room_for total (53 + length info.0 + 4 + g + 4) t) _ h (HeadRead b total h) e5 (λ u rf e6.
    let small = at_most_ok 65536 (SigningLength size) size g gs in
    let tree = tree_size_ok b total (53 + length info.0 + 4 + g) t ts in
    let built : Head = record { salt = info.0; root = record { 0 = info.1 }; tree_at = 53 + length info.0 + 4 + g + 4; tree_len = t } in
    let same : built ≡ h = ok_is built h e6 in
    let read : HeadRead b total built = record {
      info = info_read b total info i;
      g = g;
      few = small.1;
      signing_size = z ∙ ap (λ (v : ℤ). Ok v) small.0;
      signing = signing;
      signing_is = sb;
      tree_size = tree.0;
      some = tree.1;
      tree_at = refl;
      room = room_for_ok total (53 + length info.0 + 4 + g + 4) t u rf;
    } in
    subst (λ (x : Head). HeadRead b total x) same read))))))

head_spelled : (b : List ℕ) (total : ℕ) (h : Head) → length b ≡ min total 69632 → AreBytes b → HeadRead b total h → IsFront b total h
head_spelled b total h len fits r =
    let s : ℕ = length h.salt in
    let g : ℕ = r.g in
    let few : g ≤ 65536 = r.few in
    let info = info_spelled b total h.salt h.root.0 len fits r.info in
    let small : s ≤ 32 = info.few in
    let room : 53 + s + 4 + g + 4 ≤ length b = omega (arith, r.room) in
    let signing_is = (bytes_at_ok b total (53 + s + 4) g r.signing r.signing_is).1 in
    let signing_len : length r.signing ≡ g = sym (ap length signing_is) ∙ part_length (53 + s + 4) g b (omega arith) in
    let tree = number_is b total (53 + s + 4 + g) h.tree_len fits (omega arith) r.tree_size in
    let p0 = cut (53 + s) 4 b (int32 g) (number_is b total (53 + s) g fits (omega arith) r.signing_size).0 in
    let p1 = cut (53 + s + 4) g b r.signing signing_is in
    let p2 = cut (53 + s + 4 + g) 4 b (int32 h.tree_len) tree.0 in
    let rest : List ℕ = drop (53 + s + 4 + g + 4) b in
    let back : drop (53 + s) b ≡ int32 g ++ (r.signing ++ (int32 h.tree_len ++ rest)) =
    p0 ∙ ap (λ (x : List ℕ). int32 g ++ x) (p1 ∙ ap (λ (x : List ℕ). r.signing ++ x) p2) in
    record {
      signing = r.signing;
      fits = record { salt = info.few; root = info.root_len; signing = omega (arith, signing_len); some = r.some; size = tree.1; place = omega (arith, r.tree_at, signing_len) };
      rest = rest;
      joined = info.joined
          ∙ ap (λ (x : List ℕ). int32 2 ++ (int32 (45 + s) ++ (int32 1 ++ (12 ∷ (int32 s ++ (h.salt ++ (int32 32 ++ (h.root.0 ++ x)))))))) (back ∙ ap (λ (n : ℕ). int32 n ++ (r.signing ++ (int32 h.tree_len ++ rest))) (sym signing_len))
          ∙ sym (flat h.salt h.root.0 r.signing h.tree_len rest info.root_len);
      room = omega (arith, r.room, r.tree_at);
    }

pub found : (b : List ℕ) (total : ℕ) (h : Head) → length b ≡ min total 69632 → AreBytes b → head_of b total ≡ Ok h → IsFront b total h
found b total h len fits e = head_spelled b total h len fits (head_read b total h e)

-- ---- what is spelled so is read

spelled_read : (b : List ℕ) (total : ℕ) (h : Head) → length b ≡ min total 69632 → IsFront b total h → HeadRead b total h
spelled_read b total h len f =
    let s : ℕ = length h.salt in
    let g : ℕ = length f.signing in
    let few : s ≤ 32 = f.fits.salt in
    let most : g ≤ 65536 = f.fits.signing in
    let root_len : length h.root.0 ≡ 32 = f.fits.root in
    let small : h.tree_len < 2 ^ 31 = f.fits.size in
    let place : h.tree_at ≡ 61 + s + g = f.fits.place in
    let room : 61 + s + g + h.tree_len ≤ total = omega (arith, f.room) in
    let root : List ℕ = h.root.0 in
    let y11 : List ℕ = f.rest in
    let y10 : List ℕ = int32 h.tree_len ++ y11 in
    let y9 : List ℕ = f.signing ++ y10 in
    let y8 : List ℕ = int32 g ++ y9 in
    let y7 : List ℕ = root ++ y8 in
    let y6 : List ℕ = int32 32 ++ y7 in
    let y5 : List ℕ = h.salt ++ y6 in
    let y4 : List ℕ = int32 s ++ y5 in
    let y3 : List ℕ = 12 ∷ y4 in
    let y2 : List ℕ = int32 1 ++ y3 in
    let y1 : List ℕ = int32 (45 + s) ++ y2 in
    let e0 : drop 0 b ≡ int32 2 ++ y1 = f.joined ∙ flat h.salt root f.signing h.tree_len f.rest root_len in
    let e1 : drop 4 b ≡ y1 = behind b 0 4 (int32 2) y1 e0 (length_int32 2) in
    let e2 : drop 8 b ≡ y2 = behind b 4 4 (int32 (45 + s)) y2 e1 (length_int32 (45 + s)) in
    let e3 : drop 12 b ≡ y3 = behind b 8 4 (int32 1) y3 e2 (length_int32 1) in
    let e4 : drop 13 b ≡ y4 = behind b 12 1 (12 ∷ []) y4 e3 refl in
    let e5 : drop 17 b ≡ y5 = behind b 13 4 (int32 s) y5 e4 (length_int32 s) in
    let e6 : drop (17 + s) b ≡ y6 = behind b 17 s h.salt y6 e5 refl in
    let e7 : drop (21 + s) b ≡ y7 = ap (λ (n : ℕ). drop n b) (omega arith) ∙ behind b (17 + s) 4 (int32 32) y7 e6 (length_int32 32) in
    let e8 : drop (53 + s) b ≡ y8 = ap (λ (n : ℕ). drop n b) (omega arith) ∙ behind b (21 + s) 32 root y8 e7 root_len in
    let e9 : drop (53 + s + 4) b ≡ y9 = behind b (53 + s) 4 (int32 g) y9 e8 (length_int32 g) in
    let e10 : drop (53 + s + 4 + g) b ≡ y10 = behind b (53 + s + 4) g f.signing y10 e9 refl in
    record {
      info = record {
        s = s;
        few = few;
        version = number_here b total 0 2 y1 e0 (omega arith) (omega arith);
        size = number_here b total 4 (45 + s) y2 e1 (omega arith) (omega arith);
        algorithm = number_here b total 8 1 y3 e2 (omega arith) (omega arith);
        block = (12 ∷ [], bytes_here b total 12 1 (12 ∷ []) y4 e3 refl (omega arith), refl);
        salt_size = number_here b total 13 s y5 e4 (omega arith) (omega arith);
        salt_is = bytes_here b total 17 s h.salt y6 e5 refl (omega arith);
        root_size = number_here b total (17 + s) 32 y7 e6 (omega arith) (omega arith);
        root_is = bytes_here b total (21 + s) 32 root y8 e7 root_len (omega arith);
      };
      g = g;
      few = most;
      signing_size = number_here b total (53 + s) g y9 e8 (omega arith) (omega arith);
      signing = f.signing;
      signing_is = bytes_here b total (53 + s + 4) g f.signing y10 e9 refl (omega arith);
      tree_size = number_here b total (53 + s + 4 + g) h.tree_len y11 e10 small (omega arith);
      some = f.fits.some;
      tree_at = omega arith;
      room = omega arith;
    }

read_info : (b : List ℕ) (total : ℕ) (salt root : List ℕ) → InfoRead b total salt root → info_of b total ≡ Ok (salt, root)
unfolding info_of
read_info b total salt root r =
    let block = r.block in
    let few = le-ltb 32 r.s r.few in
    let whole = eq-eqb (45 + r.s) (45 + r.s) refl in
    rw (r.version, r.size, r.algorithm, block.1, block.2, r.salt_size, few, r.salt_is, r.root_size, r.root_is, whole) refl

read_head : (b : List ℕ) (total : ℕ) (h : Head) → HeadRead b total h → head_of b total ≡ Ok h
unfolding head_of
read_head b total h r =
    let info : info_of b total ≡ Ok (h.salt, h.root.0) = read_info b total h.salt h.root.0 r.info in
    let few = le-ltb 65536 r.g r.few in
    let size = tree_size_is b total (53 + length h.salt + 4 + r.g) h.tree_len r.tree_size (omega (arith, r.room, r.some)) r.some in
    let room = room_is total (53 + length h.salt + 4 + r.g + 4) h.tree_len r.room in
    rw (info, r.signing_size, few, r.signing_is, size, room, sym r.tree_at) refl

pub again : (b : List ℕ) (total : ℕ) (h : Head) → length b ≡ min total 69632 → IsFront b total h → head_of b total ≡ Ok h
again b total h len f = read_head b total h (spelled_read b total h len f)

-- ---- whole files

-- a front that is short stands in the first bytes
taken : (n : ℕ) (front rest : List ℕ) → length front ≤ n → take n (front ++ rest) ≡ front ++ take (n - length front) rest
taken n front rest h = let more : n ≡ length front + (n - length front) = omega arith in ap (λ (k : ℕ). take k (front ++ rest)) more ∙ take-append-add front rest (n - length front)

pub front_of : (file b : List ℕ) (total : ℕ) (h : Head) → length file ≡ total → take 69632 file ≡ b → IsIdsig file h → IsFront b total h
front_of file b total h len first f =
    let front : List ℕ = front_bytes h.salt h.root.0 f.signing h.tree_len in
    let tail : List ℕ = f.tree ++ f.after in
    let front_len = length_front h.salt h.root.0 f.signing h.tree_len f.fits.root in
    let whole : file ≡ front ++ tail = f.joined ∙ ap (λ (n : ℕ). (front_bytes h.salt h.root.0 f.signing n ++ f.tree) ++ f.after) f.tree_len ∙ append_assoc front f.tree f.after in
    record {
      signing = f.signing;
      fits = f.fits;
      rest = take (69632 - length front) tail;
      joined = sym first ∙ ap (take 69632) whole ∙ taken 69632 front tail (omega (arith, front_len, f.fits.salt, f.fits.signing));
      room = omega (arith, front_len, f.fits.place, ap length whole, length-append front tail, length-append f.tree f.after, f.tree_len);
    }

pub whole_of : (file b : List ℕ) (total : ℕ) (h : Head) → length file ≡ total → take 69632 file ≡ b → IsFront b total h → IsIdsig file h
whole_of file b total h len first f =
    let front : List ℕ = front_bytes h.salt h.root.0 f.signing h.tree_len in
    let front_len = length_front h.salt h.root.0 f.signing h.tree_len f.fits.root in
    let tail : List ℕ = f.rest ++ drop 69632 file in
    let whole : file ≡ front ++ tail = sym (take-append-drop 69632 file) ∙ ap (λ (x : List ℕ). x ++ drop 69632 file) (first ∙ f.joined) ∙ append_assoc front f.rest (drop 69632 file) in
    let tail_len : h.tree_len ≤ length tail = omega (arith, front_len, f.fits.place, f.room, ap length whole, length-append front tail) in
    let tree : List ℕ = take h.tree_len tail in
    let tree_len : length tree ≡ h.tree_len = omega (arith, length-take h.tree_len tail) in
    record {
      signing = f.signing;
      fits = f.fits;
      tree = tree;
      tree_len = tree_len;
      after = drop h.tree_len tail;
      joined = whole ∙ ap (λ (x : List ℕ). front ++ x) (sym (take-append-drop h.tree_len tail)) ∙ sym (append_assoc front tree (drop h.tree_len tail))
          ∙ ap (λ (n : ℕ). (front_bytes h.salt h.root.0 f.signing n ++ tree) ++ drop h.tree_len tail) (sym tree_len);
    }

-- ---- what is written

pub written : (salt : List ℕ) (root : Digest) (signing tree : List ℕ) → length salt ≤ 32 → length root.0 ≡ 32 → length signing ≤ 65536 → 1 ≤ length tree → length tree ≤ 2 ^ 30 →
    IsIdsig (idsig_bytes salt root.0 signing tree) (head_for salt root signing tree)
written salt root signing tree few root_len most some size = record {
  signing = signing;
  fits = record { salt = few; root = root_len; signing = most; some = omega arith; size = omega arith; place = refl };
  tree = tree;
  tree_len = refl;
  after = [];
  joined = sym (append-nil (idsig_bytes salt root.0 signing tree));
}

pub read_again : (file : List ℕ) (h : Head) → IsIdsig file h → head_of (take 69632 file) (length file) ≡ Ok h
read_again file h f = again (take 69632 file) (length file) h (omega (arith, length-take 69632 file)) (front_of file (take 69632 file) (length file) h refl refl f)
