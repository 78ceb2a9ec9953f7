-- What was written out is read back: the same way, whose nodes name later ones only. Assumes nothing.
use Rattle.std.proofs.Common.{◌≡◌, ℕ, zero, suc, ◌+◌, ◌*◌, ◌<◌, ◌≤◌, true, ◌&&◌, List, [], ◌∷◌, ◌++◌, length, get_or, Some, sym, refl, ap, ◌∙◌, ap₂, inl, inr, add-zero, arith}
use Rattle.std.proofs.lemmas.List.{append_assoc, length-append, get_or-append-add}
use Rattle.std.proofs.lemmas.Bool.{cases_lt, le-leb, lt-ltb, and_from}
use Rattle.ways.specs.Nodes as nodes
use Rattle.ways.specs.Nodes.{kind_of, numbers_of, node_from, node_at, node_ok, comes_later, way_from, way_at, size}
use Rattle.ways.specs.Parts.{sawn}
use Rattle.ways.specs.Sheet.{Way, scrap, take, upright, level}
use Rattle.ways.specs.declared.nodes.Cut.{Cut}
use Rattle.ways.specs.declared.nodes.Node.{Node}
use Rattle.ways.specs.declared.nodes.Node.TheVariants.{Scrap, Take, Saw}
use Rattle.ways.specs.declared.parts.Orientation.{Orientation}
use Rattle.ways.specs.declared.parts.Orientation.TheVariants.{Upright, Level}
use Rattle.nodes.specs.Written.{cut_node, encode}
use Rattle.nodes.proofs.Lent.{four_numbers, length_encode, encode_sawn}

pub size_some : (a : Way) → 1 ≤ size a
unfolding size
size_some scrap = omega arith
size_some (take k) = omega arith
size_some (upright x a b) = omega arith
size_some (level y a b) = omega arith

-- four numbers behind i others are node i
module _ (xs before behind : List ℕ) (i : ℕ) (at : length before ≡ 4 * i) where
  node_four : (p q r t : ℕ) → xs ≡ before ++ (p ∷ q ∷ r ∷ t ∷ behind) → node_at xs i ≡ node_from p q r t
  unfolding node_at
  node_four p q r t is =
      let four : List ℕ = p ∷ q ∷ r ∷ t ∷ behind in
      let get : (j : ℕ) → get_or xs (4 * i + j) 0 ≡ get_or four j 0 =
      λ j. ap (λ (z : List ℕ). get_or z (4 * i + j) 0) is ∙ ap (λ (k : ℕ). get_or (before ++ four) (k + j) 0) (sym at) ∙ get_or-append-add before four j 0 in
      let kind : get_or xs (4 * i) 0 ≡ p = ap (λ (k : ℕ). get_or xs k 0) (sym (add-zero (4 * i))) ∙ get 0 in
      rw (le-leb (4 * i + 4) (length xs) (omega (arith, ap length is, length-append before four)), kind, get 1, get 2, get 3) refl

  node_there : (node : Node ℕ) → xs ≡ before ++ (numbers_of node ++ behind) → node_at xs i ≡ Some node
  unfolding node_from
  node_there Scrap is = node_four 0 0 0 0 is
  node_there (Take k) is = node_four 1 k 0 0 is
  node_there (Saw c) is = node_four (kind_of c.orientation) c.at c.first c.second is ∙ cut_there c.orientation c where
    cut_there : (o : Orientation) (c : Cut ℕ) → node_from (kind_of o) c.at c.first c.second ≡ Some (Saw (record { orientation = o; at = c.at; first = c.first; second = c.second }))
    cut_there Upright c = refl
    cut_there Level c = refl

-- the nodes of a way stand in a list from node i on
record Stands (xs : List ℕ) (i : ℕ) (a : Way) : Type 0 where
  pub before : List ℕ
  pub behind : List ℕ
  pub is : xs ≡ before ++ (encode i a ++ behind)
  pub at : length before ≡ 4 * i

-- and so do those of the parts of a cut
module _ (xs before behind : List ℕ) (node : Node ℕ) (i : ℕ) (a b : Way) (at : length before ≡ 4 * i)
    (is : xs ≡ before ++ ((numbers_of node ++ (encode (i + 1) a ++ encode (i + 1 + size a) b)) ++ behind)) where
  first_stands : Stands xs (i + 1) a
  first_stands =
      record {
        before = before ++ numbers_of node;
        behind = encode (i + 1 + size a) b ++ behind;
        is = is ∙ simp append_assoc;
        at = omega (arith, length-append before (numbers_of node), four_numbers node);
      }

  second_stands : Stands xs (i + 1 + size a) b
  second_stands =
      record {
        before = before ++ (numbers_of node ++ encode (i + 1) a);
        behind = behind;
        is = is ∙ simp append_assoc;
        at = omega (arith, length-append before (numbers_of node ++ encode (i + 1) a), length-append (numbers_of node) (encode (i + 1) a), four_numbers node, length_encode (i + 1) a);
      }

-- what two parts are read back as, their cut is
module _ (o : Orientation) (x : ℕ) (a b : Way) (xs : List ℕ) (i : ℕ) (s : Stands xs i (sawn o x a b)) where
  abbrev node : Node ℕ
  node = cut_node o i x (size a)

  is_cut : xs ≡ s.before ++ ((numbers_of node ++ (encode (i + 1) a ++ encode (i + 1 + size a) b)) ++ s.behind)
  is_cut = s.is ∙ ap (λ (z : List ℕ). s.before ++ (z ++ s.behind)) (encode_sawn o i x a b)

  first_part : Stands xs (i + 1) a
  first_part = first_stands xs s.before s.behind node i a b s.at is_cut

  second_part : Stands xs (i + 1 + size a) b
  second_part = second_stands xs s.before s.behind node i a b s.at is_cut

  node_is : node_at xs i ≡ Some node
  node_is = node_there xs s.before ((encode (i + 1) a ++ encode (i + 1 + size a) b) ++ s.behind) i s.at node (is_cut ∙ ap (λ (z : List ℕ). s.before ++ z) (append_assoc (numbers_of node) (encode (i + 1) a ++ encode (i + 1 + size a) b) s.behind))

  cut_decoded : (l : ℕ) → way_at xs l (i + 1) ≡ a → way_at xs l (i + 1 + size a) ≡ b → way_at xs (suc l) i ≡ sawn o x a b
  unfolding way_at way_from
  cut_decoded l first second = rw node_is (ap₂ (sawn o x) first second)

decode : (a : Way) (xs : List ℕ) (l i : ℕ) → Stands xs i a → size a ≤ l → way_at xs l i ≡ a
unfolding encode size way_at way_from
decode scrap xs zero i s le = absurd (omega arith)
decode scrap xs (suc l) i s le = rw (node_there xs s.before s.behind i s.at Scrap s.is) refl
decode (take k) xs zero i s le = absurd (omega arith)
decode (take k) xs (suc l) i s le = rw (node_there xs s.before s.behind i s.at (Take k) s.is) refl
decode (upright x a b) xs zero i s le = absurd (omega arith)
decode (upright x a b) xs (suc l) i s le =
    cut_decoded Upright x a b xs i s l (decode a xs l (i + 1) (first_part Upright x a b xs i s) (omega arith))
    (decode b xs l (i + 1 + size a) (second_part Upright x a b xs i s) (omega arith))
decode (level y a b) xs zero i s le = absurd (omega arith)
decode (level y a b) xs (suc l) i s le =
    cut_decoded Level y a b xs i s l (decode a xs l (i + 1) (first_part Level y a b xs i s) (omega arith))
    (decode b xs l (i + 1 + size a) (second_part Level y a b xs i s) (omega arith))

-- node j of a cut that is node i: it is that node, or one of the first part, or one of the second
module _ (xs : List ℕ) (n i : ℕ) where
  leaf_ok : (node : Node ℕ) (j : ℕ) → node_at xs i ≡ Some node → nodes.all_later n i (Some node) ≡ true → i ≤ j → j < i + 1 → node_ok xs n j ≡ true
  unfolding node_ok
  leaf_ok node j here later lo hi = let same : j ≡ i = omega arith in rw (same, here) later

  cut_ok :
      (node : Node ℕ) (u v p q j : ℕ) → node_at xs i ≡ Some node → nodes.all_later n i (Some node) ≡ (comes_later n i u && comes_later n i v) → u ≡ i + 1 → v ≡ i + 1 + p →
      1 ≤ p → 1 ≤ q → i + suc (p + q) ≤ n → i ≤ j → j < i + suc (p + q) →
      (u ≤ j → j < u + p → node_ok xs n j ≡ true) → (v ≤ j → j < v + q → node_ok xs n j ≡ true) → node_ok xs n j ≡ true
  cut_ok node u v p q j here names eu ev p_some q_some room lo hi first second =
      elim (cases_lt j u) [
        | inl own ↦
            let after_u = and_from _ _ (lt-ltb i u (omega arith)) (lt-ltb u n (omega arith)) in
            let after_v = and_from _ _ (lt-ltb i v (omega arith)) (lt-ltb v n (omega arith)) in
            leaf_ok node j here (names ∙ and_from _ _ after_u after_v) lo (omega arith)
        | inr past ↦ elim (cases_lt j v) [ inl less ↦ first (omega arith) (omega arith) | inr more ↦ second (omega arith) (omega arith) ]
      ]

-- so it is of a cut
cut_nodes_ok :
    (o : Orientation) (x : ℕ) (a b : Way) (xs : List ℕ) (n i j : ℕ) → Stands xs i (sawn o x a b) → i + suc (size a + size b) ≤ n → i ≤ j → j < i + suc (size a + size b) →
    (i + 1 ≤ j → j < i + 1 + size a → node_ok xs n j ≡ true) → (i + 1 + size a ≤ j → j < i + 1 + size a + size b → node_ok xs n j ≡ true) → node_ok xs n j ≡ true
cut_nodes_ok o x a b xs n i j s room lo hi =
    cut_ok xs n i (node o x a b xs i s) (i + 1) (i + 1 + size a) (size a) (size b) j (node_is o x a b xs i s) refl refl refl (size_some a) (size_some b) room lo hi

nodes_ok : (a : Way) (xs : List ℕ) (n i j : ℕ) → Stands xs i a → i + size a ≤ n → i ≤ j → j < i + size a → node_ok xs n j ≡ true
unfolding encode size
nodes_ok scrap xs n i j s room lo hi = leaf_ok xs n i Scrap j (node_there xs s.before s.behind i s.at Scrap s.is) refl lo hi
nodes_ok (take k) xs n i j s room lo hi = leaf_ok xs n i (Take k) j (node_there xs s.before s.behind i s.at (Take k) s.is) refl lo hi
nodes_ok (upright x a b) xs n i j s room lo hi =
    cut_nodes_ok Upright x a b xs n i j s room lo hi (λ p q. nodes_ok a xs n (i + 1) j (first_part Upright x a b xs i s) (omega arith) p q)
    (λ p q. nodes_ok b xs n (i + 1 + size a) j (second_part Upright x a b xs i s) (omega arith) p q)
nodes_ok (level y a b) xs n i j s room lo hi =
    cut_nodes_ok Level y a b xs n i j s room lo hi (λ p q. nodes_ok a xs n (i + 1) j (first_part Level y a b xs i s) (omega arith) p q)
    (λ p q. nodes_ok b xs n (i + 1 + size a) j (second_part Level y a b xs i s) (omega arith) p q)

-- both of a way whose nodes stand at the front
module _ (a : Way) (xs behind : List ℕ) (is : xs ≡ encode 0 a ++ behind) where
  front : Stands xs 0 a
  front = record { before = []; behind = behind; is = is; at = refl }

  pub read_back : way_at xs (size a) 0 ≡ a
  read_back = decode a xs (size a) 0 front (omega arith)

  pub all_later : (i : ℕ) → i < size a → node_ok xs (size a) i ≡ true
  all_later i lt = nodes_ok a xs (size a) 0 i front (omega arith) (omega arith) (omega arith)
