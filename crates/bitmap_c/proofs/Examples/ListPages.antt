-- Pages of a list of four numbers.
use Rattle.std.specs.Prelude.{◌≡◌, ℕ, List, [], ◌∷◌, Ok, Err}
use Rattle.std.proofs.Common.{ap, get_or, refl, arith}
use Rattle.historical_bitmap.specs.History.{at_least}
use Rattle.bitmap_c.specs.Pages.{IsPage, IsPageOf, ReturnsPage}

abbrev numbers : List ℕ
numbers = 3 ∷ 5 ∷ 8 ∷ 9 ∷ []

-- a buffer of two gets the first two
first_two : IsPage numbers 2 (0 ∷ 0 ∷ []) (3 ∷ 5 ∷ [])
first_two = record { counted = refl; items = refl; rest = refl }

-- a longer buffer keeps its rest
all_and_rest : IsPage (8 ∷ 9 ∷ []) 2 (7 ∷ 7 ∷ 7 ∷ []) (8 ∷ 9 ∷ 7 ∷ [])
all_and_rest = record { counted = refl; items = refl; rest = refl }

empty_buffer : IsPage numbers 0 [] []
empty_buffer = record { counted = refl; items = refl; rest = refl }

one_short : IsPage numbers 1 (0 ∷ 0 ∷ []) (3 ∷ 0 ∷ []) → ⊥
one_short p = omega (arith, p.counted)

rest_is_cleared : IsPage (8 ∷ 9 ∷ []) 2 (7 ∷ 7 ∷ 7 ∷ []) (8 ∷ 9 ∷ 0 ∷ []) → ⊥
rest_is_cleared p = omega (arith, ap (λ xs. get_or xs 0 0) p.rest)

not_the_first : IsPage numbers 2 (0 ∷ 0 ∷ []) (5 ∷ 8 ∷ []) → ⊥
not_the_first p = omega (arith, ap (λ xs. get_or xs 0 0) p.items)

-- a list from a number on; the number itself is in it
from_six : at_least 6 numbers ≡ 8 ∷ 9 ∷ []
from_six = refl

from_eight : at_least 8 numbers ≡ 8 ∷ 9 ∷ []
from_eight = refl

from_ten : at_least 10 numbers ≡ []
from_ten = refl

-- without a list, the count and the buffer are unchanged
no_list : ReturnsPage 12 4 4 (7 ∷ []) (7 ∷ []) (Err 12)
no_list = record { status_is = refl; page_is = (refl, refl) }

no_list_counts_none : IsPageOf (Err 12) 4 0 (7 ∷ []) (7 ∷ []) → ⊥
no_list_counts_none p = omega (arith, p.0)

error_without_its_status : ReturnsPage 0 4 4 (7 ∷ []) (7 ∷ []) (Err 12) → ⊥
error_without_its_status p = omega (arith, p.status_is)

a_list : ReturnsPage 0 4 1 (7 ∷ []) (3 ∷ []) (Ok numbers)
a_list = record { status_is = refl; page_is = record { counted = refl; items = refl; rest = refl } }
