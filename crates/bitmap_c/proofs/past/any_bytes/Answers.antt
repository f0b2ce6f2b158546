use Rattle.bitmap_c.proofs.past.any_bytes.Goals as goal

pub returns-in-Width8 : goal.returns-in-Width8
returns-in-Width8 c = rw c.in-Width8.is c.bytes_of-in-Width8.ensures

pub returns-in-Width32 : goal.returns-in-Width32
returns-in-Width32 c = rw c.in-Width32.is c.bytes_of-in-Width32.ensures

pub returns-in-Width64 : goal.returns-in-Width64
returns-in-Width64 c = rw c.in-Width64.is c.bytes_of-in-Width64.ensures
