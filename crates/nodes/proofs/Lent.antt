-- What the room holds after parts of it were lent and written. Assumes nothing.
use Rattle.std.proofs.Common.{◌≡◌, ℕ, ◌+◌, ◌-◌, ◌*◌, ◌≤◌, List, [], ◌++◌, length, take, drop, sym, refl, ap, ◌∙◌, arith}
use borrow.Rule.Slice.PartMut.{put_mid}
use Rattle.std.proofs.lemmas.List.{append-nil, append_assoc, length-append, length-take-le, take_rest, drop-drop, drop_all, drop_at, take_at}
use Rattle.ways.specs.Nodes.{numbers_of, size}
use Rattle.ways.specs.Parts.{sawn}
use Rattle.ways.specs.Sheet as sheet
use Rattle.ways.specs.Sheet.{Way, scrap, upright, level}
use Rattle.ways.specs.declared.nodes.Node.{Node}
use Rattle.ways.specs.declared.nodes.Node.TheVariants.{Scrap, Take, Saw}
use Rattle.ways.specs.declared.parts.Orientation.{Orientation}
use Rattle.ways.specs.declared.parts.Orientation.TheVariants.{Upright, Level}
use Rattle.nodes.specs.Written.{cut_node, encode}

pub four_numbers : (node : Node ℕ) → length (numbers_of node) ≡ 4
four_numbers Scrap = refl
four_numbers (Take k) = refl
four_numbers (Saw c) = refl

-- a cut's nodes, whichever way it goes
pub encode_sawn : (o : Orientation) (i x : ℕ) (a b : Way) → encode i (sawn o x a b) ≡ numbers_of (cut_node o i x (size a)) ++ (encode (i + 1) a ++ encode (i + 1 + size a) b)
unfolding encode
encode_sawn Upright i x a b = refl
encode_sawn Level i y a b = refl

pub size_sawn : (o : Orientation) (x : ℕ) (a b : Way) → size (sawn o x a b) ≡ 1 + (size a + size b)
unfolding size
size_sawn Upright x a b = omega arith
size_sawn Level y a b = omega arith

pub length_encode : (i : ℕ) (a : Way) → length (encode i a) ≡ 4 * size a
unfolding encode size
length_encode i scrap = refl
length_encode i (sheet.take k) = refl
length_encode i (upright x a b) =
    omega (arith, length-append (encode (i + 1) a) (encode (i + 1 + size a) b), length_encode (i + 1) a, length_encode (i + 1 + size a) b)
length_encode i (level y a b) =
    omega (arith, length-append (encode (i + 1) a) (encode (i + 1 + size a) b), length_encode (i + 1) a, length_encode (i + 1 + size a) b)

-- `&mut xs[a..]` was lent, and came back with `es` at its front and the rest as it was
put_rest :
    (a n k : ℕ) (xs ys es : List ℕ) → k ≡ length xs - a → a ≤ length xs →
    ys ≡ es ++ drop n (take (length xs - a) (drop a xs)) → put_mid a k xs ys ≡ take a xs ++ (es ++ drop (a + n) xs)
put_rest a n k xs ys es ek le h =
    let back : ys ≡ es ++ drop (a + n) xs = h ∙ ap (λ (z : List ℕ). es ++ drop n z) (take_rest xs a) ∙ ap (λ (z : List ℕ). es ++ z) (drop-drop n a xs) in
    let nothing : drop k (drop a xs) ≡ [] = drop-drop k a xs ∙ drop_all (a + k) xs (omega arith) in
    ap (λ (z : List ℕ). take a xs ++ (ys ++ z)) nothing ∙ ap (λ (z : List ℕ). take a xs ++ z) (append-nil ys ∙ back)

-- the room behind the first four numbers after it was lent to two parts, one behind the other
module _ (n m k₁ k₂ : ℕ) (xs ys zs es fs : List ℕ) (room : 4 + 4 * n ≤ length xs) (long : length es ≡ 4 * n) (all₁ : k₁ ≡ length xs - 4)
    (first : ys ≡ es ++ drop (4 * n) (take (length xs - 4) (drop 4 xs))) where
  abbrev one : List ℕ
  one = put_mid 4 k₁ xs ys

  one_is : one ≡ (take 4 xs ++ es) ++ drop (4 + 4 * n) xs
  one_is = put_rest 4 (4 * n) k₁ xs ys es all₁ (omega arith) first ∙ sym (append_assoc (take 4 xs) es (drop (4 + 4 * n) xs))

  front : length (take 4 xs ++ es) ≡ 4 + 4 * n
  front = length-append (take 4 xs) es ∙ (omega (arith, length-take-le 4 xs (omega arith)))

  module _ (all₂ : k₂ ≡ length one - (4 + 4 * n)) (second : zs ≡ fs ++ drop (4 * m) (take (length one - (4 + 4 * n)) (drop (4 + 4 * n) one))) where
    pub two_parts : drop 4 (put_mid (4 + 4 * n) k₂ one zs) ≡ (es ++ fs) ++ drop (4 * (1 + n + m)) xs
    two_parts =
        let within : 4 + 4 * n ≤ length one = omega (arith, ap length one_is, length-append (take 4 xs ++ es) (drop (4 + 4 * n) xs), front) in
        let kept : take (4 + 4 * n) one ≡ take 4 xs ++ es = ap (take (4 + 4 * n)) one_is ∙ take_at (take 4 xs ++ es) (drop (4 + 4 * n) xs) (4 + 4 * n) front in
        let free : drop (4 + 4 * n) one ≡ drop (4 + 4 * n) xs = ap (drop (4 + 4 * n)) one_is ∙ drop_at (take 4 xs ++ es) (drop (4 + 4 * n) xs) (4 + 4 * n) front in
        let rest : drop (4 + 4 * n + 4 * m) one ≡ drop (4 * (1 + n + m)) xs =
        sym (drop-drop (4 * m) (4 + 4 * n) one) ∙ ap (drop (4 * m)) free ∙ drop-drop (4 * m) (4 + 4 * n) xs ∙ ap (λ (k : ℕ). drop k xs) (omega arith) in
        let whole : put_mid (4 + 4 * n) k₂ one zs ≡ take 4 xs ++ ((es ++ fs) ++ drop (4 * (1 + n + m)) xs) =
        put_rest (4 + 4 * n) (4 * m) k₂ one zs fs all₂ within second
        ∙ ap (λ (z : List ℕ). z ++ (fs ++ drop (4 + 4 * n + 4 * m) one)) kept ∙ ap (λ (z : List ℕ). (take 4 xs ++ es) ++ (fs ++ z)) rest ∙ simp append_assoc in
        ap (drop 4) whole ∙ drop_at (take 4 xs) ((es ++ fs) ++ drop (4 * (1 + n + m)) xs) 4 (length-take-le 4 xs (omega arith))

-- a cut's node in front of the nodes of its two parts, which were lent what was free one after the other: from s₁ and from s₂ on.
-- The cut names nodes j₁ and j₂. All four are in the code's own words, and shown to be the right ones
module _ (o : Orientation) (x i n m : ℕ) (a b : Way) (counted : n ≡ size a) where
  pub cut_written :
      (s₁ s₂ j₁ j₂ k₁ k₂ : ℕ) (xs ys zs ws : List ℕ) → 4 + 4 * n ≤ length xs → s₁ ≡ 4 → s₂ ≡ 4 + 4 * n → j₁ ≡ i + 1 → j₂ ≡ i + 1 + n →
      k₁ ≡ length xs - s₁ → ys ≡ encode (i + 1) a ++ drop (4 * n) (take (length xs - s₁) (drop s₁ xs)) →
      k₂ ≡ length (put_mid s₁ k₁ xs ys) - s₂ →
      zs ≡ encode (i + 1 + n) b ++ drop (4 * m) (take (length (put_mid s₁ k₁ xs ys) - s₂) (drop s₂ (put_mid s₁ k₁ xs ys))) →
      ws ≡ numbers_of (Saw (record { orientation = o; at = x; first = j₁; second = j₂ })) ++ drop 4 (put_mid s₂ k₂ (put_mid s₁ k₁ xs ys) zs) →
      ws ≡ encode i (sawn o x a b) ++ drop (4 * (1 + n + m)) xs
  cut_written s₁ s₂ j₁ j₂ k₁ k₂ xs ys zs ws room from₁ from₂ named₁ named₂ all₁ first all₂ second put =
      let long : length (encode (i + 1) a) ≡ 4 * n = length_encode (i + 1) a ∙ (omega arith) in
      let first_is = rw from₁ at first in
      let second_is = rw (from₁, from₂) at second in
      let two = two_parts n m k₁ k₂ xs ys zs (encode (i + 1) a) (encode (i + 1 + n) b) room long (rw from₁ at all₁) first_is (rw (from₁, from₂) at all₂) second_is in
      (rw (from₁, from₂, named₁, named₂) at put) ∙ ap (λ (z : List ℕ). numbers_of (cut_node o i x n) ++ z) two
      ∙ ap (λ (k : ℕ). numbers_of (cut_node o i x k) ++ ((encode (i + 1) a ++ encode (i + 1 + k) b) ++ drop (4 * (1 + n + m)) xs)) counted
      ∙ sym (append_assoc (numbers_of (cut_node o i x (size a))) (encode (i + 1) a ++ encode (i + 1 + size a) b) (drop (4 * (1 + n + m)) xs))
      ∙ ap (λ (z : List ℕ). z ++ drop (4 * (1 + n + m)) xs) (sym (encode_sawn o i x a b))
