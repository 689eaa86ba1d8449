-- The most bytes of an input that are read.
use Rattle.std.proofs.Common.{◌≡◌, ℕ, ◌+◌, ◌≤◌, true, List, ◌++◌, length, take, Option, ap}
use Rattle.std.proofs.Common.{arith, length-take}
use Rattle.std.specs.Prelude.{codes, IsErr, Result, Ok, Err}
use Rattle.std.specs.Str.{bytes_eq}
use Rattle.std.specs.Io.KnownBytes.{Consumes}
use Rattle.std.proofs.KnownBytes.{Consumes-trans}
use Rattle.std.proofs.lemmas.List.{length-append}
use Rattle.std.proofs.lemmas.Slice.Eq.{bytes_eq-Decides}
use Rattle.mc_bundle.specs.ReadFault.{ConsumesUpTo}
use Rattle.mc_bundle.specs.PartsLimits.{ConsumesWithin, max_to_come_after}
use Rattle.mc_bundle.specs.declared.bundle_fault.BundleFault.{BundleFault}
use Rattle.mc_bundle.specs.declared.stage.OpenPart.{OpenPart}
use Rattle.mc_bundle.proofs.PartsLemmas.{length-filled_buffer}

-- reading known bytes, and then up to a limit, stays within a limit
pub consumes_up_to-after_consumes : (a b c : Option (List ℕ)) (xs : List ℕ) (n most : ℕ) → Consumes a b xs
    → ConsumesUpTo n b c → length xs + n ≤ most → ConsumesUpTo most a c
consumes_up_to-after_consumes a b c xs n most first more within = (
  xs ++ more.0,
  omega (arith, more.1, length-append xs more.0),
  Consumes-trans a b c xs more.0 first more.2,
)

-- reading into a buffer after the bytes that it has stays within its size
pub consumes_up_to-filled_buffer : (a b c : Option (List ℕ)) (xs ys rest : List ℕ) (n more : ℕ)
    → n ≤ length xs
    → more ≤ length ys → Consumes a b (take n xs) → Consumes b c (take more ys)
    → ConsumesUpTo (length (take n xs ++ (ys ++ rest))) a c
consumes_up_to-filled_buffer a b c xs ys rest n more within fits first second = (
  take n xs ++ take more ys,
  omega (
    arith,
    length-filled_buffer xs ys rest n more within fits,
    length-take n xs,
    length-take more ys,
    length-append (take n xs) (take more ys),
  ),
  Consumes-trans a b c (take n xs) (take more ys) first second,
)

-- reading up to a limit, and then within others, stays within the sum
pub consumes_within-after_consumes_up_to : (a b c : Option (List ℕ)) (n most after : ℕ) → ConsumesUpTo n a b
    → ConsumesWithin most after b c → ConsumesWithin (n + most) after a c
consumes_within-after_consumes_up_to a b c n most after first more = (
  first.0 ++ more.0,
  omega (arith, first.1, more.1, length-append first.0 more.0),
  Consumes-trans a b c first.0 more.0 first.2 more.2,
)

-- the line `end` has three bytes
pub length-end_line : (line : List ℕ) → bytes_eq line (codes "end") ≡ true → length line ≡ 3
length-end_line line is = ap length ((bytes_eq-Decides line (codes "end")).0 is)

-- after a fault no more bytes may come
pub consumes_within-fault : (r : Result (Option OpenPart) BundleFault) (a b c : Option (List ℕ))
    (m n most : ℕ) → IsErr r → ConsumesUpTo m a b → ConsumesUpTo n b c → m + n ≤ most
    → ConsumesWithin most (max_to_come_after r) a c
consumes_within-fault (Ok x) a b c m n most fault first more within = absurd cc
consumes_within-fault (Err e) a b c m n most fault first more within = (
  first.0 ++ more.0,
  omega (arith, first.1, more.1, length-append first.0 more.0),
  Consumes-trans a b c first.0 more.0 first.2 more.2,
)
