-- The computable tests of an address agree with the relations.
use Rattle.std.proofs.Common.{◌≡◌, ℕ, true, arith}
use Rattle.std.proofs.lemmas.Bool.Decides.{nat_tests}
use Rattle.mc_text.specs.Addr.{IsSource, IsForwardedGroup, is_source, is_forwarded_group}

-- what passes the test is a source
pub is_source-sound : (a : ℕ) → is_source a ≡ true → IsSource a
is_source-sound a e = grind (arith, nat_tests)

-- a source passes the test
pub is_source-complete : (a : ℕ) → IsSource a → is_source a ≡ true
is_source-complete a is = grind (arith, nat_tests)

-- what passes the test is a forwarded group
pub is_forwarded_group-sound : (a : ℕ) → is_forwarded_group a ≡ true → IsForwardedGroup a
is_forwarded_group-sound a e = grind (arith, nat_tests)

-- a forwarded group passes the test
pub is_forwarded_group-complete : (a : ℕ) → IsForwardedGroup a → is_forwarded_group a ≡ true
is_forwarded_group-complete a is = grind (arith, nat_tests)
