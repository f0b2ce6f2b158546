-- The digest of bytes.
use Rattle.std.specs.Prelude.{ℕ, List}
use Rattle.std.specs.Hash.DefaultHasher as sip

-- the digest of bytes: SipHash-1-3 with both keys 0, below 2^64
unfoldable pub digest : List ℕ → ℕ
digest bytes = sip.finish (sip.write sip.initial bytes)
