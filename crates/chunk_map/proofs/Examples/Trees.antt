-- A tree with one node, above the keys 0x31 at place 0 and 0x37 at place 1.
use Rattle.std.specs.Prelude.{◌≡◌, ℕ, List, [], ◌∷◌}
use Rattle.std.proofs.Common.{refl, arith}
use Rattle.chunk_map.specs.declared.trie.Node.{Node}
use Rattle.chunk_map.specs.Trie.{digit_in, Finds, Holds, IsShift, link_for, marked}

-- the links of places 0 and 1 are 2 and 4
abbrev sorts : Node
sorts = record { links = 0 ∷ 2 ∷ 0 ∷ 0 ∷ 0 ∷ 0 ∷ 0 ∷ 4 ∷ 0 ∷ 0 ∷ 0 ∷ 0 ∷ 0 ∷ 0 ∷ 0 ∷ 0 ∷ []; base = 55; shift = 0; used = 130 }

abbrev nodes : List Node
nodes = sorts ∷ []

abbrev keys : List ℕ
keys = 49 ∷ 55 ∷ []

lowest_digit : digit_in sorts 55 ≡ 7
lowest_digit = refl

second_digit : digit_in (record sorts { shift = 4 }) 55 ≡ 3
second_digit = refl

link_of_a_key : link_for sorts 55 ≡ 4
link_of_a_key = refl

no_link : link_for sorts 56 ≡ 0
no_link = refl

-- keys with the higher digit 3
holds_another : Holds sorts 56
holds_another = refl

not_with_other_digits : Holds sorts 71 → ⊥
not_with_other_digits h = omega (arith, h)

-- the root is the link 1, of node 0
finds_at_place_one : Finds nodes keys 55 1 1
finds_at_place_one = (1, (record { odd = refl; within = omega arith }, refl, (record { within = omega arith; is = refl }, refl)))

-- a used bit is set by a link, and cleared by 0
marked_by_a_link : marked 130 0 6 ≡ 131
marked_by_a_link = refl

cleared : marked 130 7 0 ≡ 2
cleared = refl

shift_of_a_digit : IsShift 60
shift_of_a_digit = record { most = omega arith; digit = refl }

past_the_highest_digit : IsShift 64 → ⊥
past_the_highest_digit s = omega (arith, s.most)

within_a_digit : IsShift 58 → ⊥
within_a_digit s = omega (arith, s.digit)
