-- Sessions that are made, copied, checked out and indexed.
use Rattle.std.specs.Prelude.{◌≡◌, true, false, [], ◌∷◌, None, Some}
use Rattle.std.proofs.Common.{refl, inl, inr, arith}
use Rattle.bitmap_core.specs.PrunedBits.{PrunedBits}
use Rattle.bitmap_session.specs.Machine.{Machine, first_machine, machine_with}
use Rattle.bitmap_c.specs.declared.any.AnySession.TheVariants.{Width1, Width8}
use Rattle.bitmap_c.specs.Making.{ChecksOut, Copies, Indexes, Makes}
use Rattle.bitmap_c.specs.Widths.{machine, width}

eight_bytes : width (Width8 first_machine None) ≡ 8
eight_bytes = refl

same_machine : machine (Width8 first_machine None) ≡ first_machine
same_machine = refl

-- 16 is no width
no_such_width : Makes None 16 17 None
no_such_width = (refl, refl)

out_of_memory : Makes None 8 13 None
out_of_memory = inl (refl, refl)

made : Makes None 8 0 (Some (Width8 first_machine None))
made = inr (refl, (Width8 first_machine None, refl, (refl, refl, refl)))

-- a handle with a session keeps it, whatever the width
full_handle : Makes (Some (Width1 first_machine None)) 16 16 (Some (Width1 first_machine None))
full_handle = (refl, refl)

full_handle_without_its_status : Makes (Some (Width1 first_machine None)) 8 0 (Some (Width1 first_machine None)) → ⊥
full_handle_without_its_status m = omega (arith, m.0)

copied : Copies (Some (Width8 first_machine None)) None 0 (Some (Width8 first_machine None))
copied = inr (refl, (Width8 first_machine None, refl, refl))

no_copy_of_an_empty_handle : Copies None None 15 None
no_copy_of_an_empty_handle = (refl, refl)

copy_to_a_full_handle : Copies (Some (Width8 first_machine None)) (Some (Width1 first_machine None)) 16 (Some (Width1 first_machine None))
copy_to_a_full_handle = (refl, refl)

-- one bit, and two bits
abbrev one : PrunedBits
one = record { pruned = 0; bits = true ∷ [] }

abbrev two : PrunedBits
two = record { pruned = 0; bits = true ∷ false ∷ [] }

-- two bits are current, and one bit is kept under 4
abbrev kept : Machine
kept = record { state = record { current = two; pending = None; history = (4, one) ∷ []; costs = (4, 1) ∷ []; last = Some 4 }; touched = [] }

-- the same in a batch
abbrev in_batch : Machine
in_batch = record { state = record { current = two; pending = Some two; history = (4, one) ∷ []; costs = (4, 1) ∷ []; last = Some 4 }; touched = [] }

checked_out : ChecksOut (Some (Width8 kept None)) 4 None 0 (Some (Width8 (machine_with one) None))
checked_out = inr (refl, (Width8 (machine_with one) None, refl, (refl, refl, refl)))

checked_out_without_memory : ChecksOut (Some (Width8 kept None)) 4 None 13 None
checked_out_without_memory = inl (refl, refl)

-- no commit is kept under 5
no_such_commit : ChecksOut (Some (Width8 kept None)) 5 None 12 None
no_such_commit = (refl, refl)

not_checked_out_in_a_batch : ChecksOut (Some (Width8 in_batch None)) 4 None 1 None
not_checked_out_in_a_batch = (refl, refl)

-- a full handle comes before any other reason, and an empty one before that
checked_out_to_a_full_handle : ChecksOut (Some (Width8 in_batch None)) 5 (Some (Width1 kept None)) 16 (Some (Width1 kept None))
checked_out_to_a_full_handle = (refl, refl)

not_checked_out_of_an_empty_handle : ChecksOut None 4 (Some (Width1 kept None)) 15 (Some (Width1 kept None))
not_checked_out_of_an_empty_handle = (refl, refl)

indexed : Indexes (Some (Width8 kept None)) true 0
indexed = inl refl

not_indexed_without_memory : Indexes (Some (Width8 kept None)) true 13
not_indexed_without_memory = inr (refl, refl)

not_indexed_in_a_batch : Indexes (Some (Width8 in_batch None)) true 1
not_indexed_in_a_batch = refl

not_indexed_in_an_empty_handle : Indexes None false 15
not_indexed_in_an_empty_handle = refl
