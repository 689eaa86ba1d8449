-- Reading a bundle part by part: the parts after the current one.
use Rattle.std.proofs.Common.{◌≡◌, ℕ, List, [], ◌∷◌, ◌++◌, take, Option, Some, None}
use Rattle.std.proofs.Common.{Result, Ok, Err, refl, sym, ap, ◌∙◌, arith}
use Rattle.std.proofs.KnownBytes.{Consumes-trans}
use Rattle.std.proofs.lemmas.List.{append-nil, length-append}
use Rattle.mc_bundle.specs.declared.bundle_fault.BundleFault.{BundleFault}
use Rattle.mc_bundle.specs.declared.stage.Stage.{Stage}
use Rattle.mc_bundle.specs.declared.stage.Stage.TheVariants as stages
use Rattle.mc_text.specs.Steps.{◌>>=◌}
use Rattle.mc_bundle.specs.Bundle.{PartText}
use Rattle.mc_bundle.specs.BundleReading.{part_bytes_at, parts_from}
use Rattle.mc_bundle.specs.PartsReading.{PartsState, prepend_parts, parts_from_current}
use Rattle.mc_bundle.specs.PartsReading.{parts_at_stage, current_part}
use Rattle.mc_bundle.specs.PartsReading.{current_part_at_stage, current_and_rest, part_if_named}
use Rattle.mc_bundle.specs.PartsLimits.{ConsumesWithin, max_to_come}
use Rattle.mc_bundle.specs.RestOfBundle.{rest_of_bundle, rest_at_stage, rest_after_part, Advances}
use Rattle.mc_bundle.proofs.PartsMeaning.{part_bytes_at-take, prepend_parts-nil}

-- ---- the current part before the others

-- a part and those after it are the part with its bytes, and those after it
part_and_rest-prepend : (name done : List ℕ) (left parts room : ℕ) (text : List ℕ)
    (found : Result (List ℕ × List ℕ) BundleFault) → part_bytes_at left text ≡ found
    → (found >>= λ f. parts_from parts room f.1 >>= λ others.
    let part : PartText = record { name = name; bytes = done ++ f.0 } in Ok (part ∷ others))
    ≡ prepend_parts (record { name = name; bytes = done ++ take left text } ∷ [])
    (found >>= λ f. parts_from parts room f.1)
part_and_rest-prepend name done left parts room text (Err fault) is = refl
part_and_rest-prepend name done left parts room text (Ok f) is =
    ap (λ bytes. let p : PartText = record { name = name; bytes = done ++ bytes } in
    prepend_parts (p ∷ []) (parts_from parts room f.1)) (part_bytes_at-take left text f is)

-- the same of the current part, if it has a name
current_and_rest-prepend : (name : Option (List ℕ)) (s : PartsState) (done text : List ℕ)
    → current_and_rest name s done text
    ≡ prepend_parts (part_if_named name (done ++ take s.left text)) (rest_after_part name s text)
current_and_rest-prepend None s done text = refl
current_and_rest-prepend (Some name) s done text =
    part_and_rest-prepend name done s.left s.parts s.room text (part_bytes_at s.left text) refl

-- at each stage the parts from the current one on are it and those after it
parts_at_stage-prepend : (stage : Stage) (s : PartsState) (done text : List ℕ)
    → parts_at_stage stage s done text
    ≡ prepend_parts (current_part_at_stage stage s done text) (rest_at_stage stage s text)
parts_at_stage-prepend stages.Start s done text = sym (prepend_parts-nil _)
parts_at_stage-prepend stages.Part s done text = current_and_rest-prepend s.name s done text
parts_at_stage-prepend stages.End s done text = refl
parts_at_stage-prepend stages.Failed s done text = refl

-- the parts from the current one on are it and those after it
pub parts_from_current-prepend : (s : PartsState) (done text : List ℕ)
    → parts_from_current s done text ≡ prepend_parts (current_part s done text) (rest_of_bundle s text)
parts_from_current-prepend s done text = parts_at_stage-prepend s.stage s done text

-- ---- facts of all parts as facts of the others

append-left_injective : (xs : List PartText) (ys zs : List PartText) → xs ++ ys ≡ xs ++ zs → ys ≡ zs
append-left_injective [] ys zs e = e
append-left_injective (x ∷ xs) ys zs e =
    let rest : xs ++ ys ≡ xs ++ zs = cc in append-left_injective xs ys zs rest

prepend_parts-injective : (xs : List PartText) (r q : Result (List PartText) BundleFault)
    → prepend_parts xs r ≡ prepend_parts xs q → r ≡ q
prepend_parts-injective xs (Ok ys) (Ok zs) e =
    let same : xs ++ ys ≡ xs ++ zs = cc in ap Ok (append-left_injective xs ys zs same)
prepend_parts-injective xs (Ok ys) (Err fault) e = absurd cc
prepend_parts-injective xs (Err fault) (Ok zs) e = absurd cc
prepend_parts-injective xs (Err fault) (Err other) e = let same : fault ≡ other = cc in ap Err same

-- if a part was opened, the parts that were to come after the current one come now
pub rest_of_bundle-opened : (s : PartsState) (done text : List ℕ) (r : Result (List PartText) BundleFault)
    → parts_from_current s done text ≡ prepend_parts (current_part s done text) r → rest_of_bundle s text ≡ r
rest_of_bundle-opened s done text r e =
    prepend_parts-injective (current_part s done text) (rest_of_bundle s text) r
    (sym (parts_from_current-prepend s done text) ∙ e)

-- at the end no parts come after the current one
pub rest_of_bundle-ended : (s : PartsState) (done text : List ℕ)
    → parts_from_current s done text ≡ Ok (current_part s done text) → rest_of_bundle s text ≡ Ok []
rest_of_bundle-ended s done text e =
    rest_of_bundle-opened s done text (Ok []) (e ∙ ap Ok (sym (append-nil (current_part s done text))))

-- a fault is the fault of the parts after the current one
pub rest_of_bundle-fault : (s : PartsState) (done text : List ℕ) (fault : BundleFault)
    → parts_from_current s done text ≡ Err fault → rest_of_bundle s text ≡ Err fault
rest_of_bundle-fault s done text fault e = rest_of_bundle-opened s done text (Err fault) e

-- in a part, the current part has its name and the bytes read and to come
pub parts_from_current-in_part : (s : PartsState) (name done text : List ℕ) → s.stage ≡ stages.Part
    → s.name ≡ Some name → parts_from_current s done text
    ≡ prepend_parts (record { name = name; bytes = done ++ take s.left text } ∷ []) (rest_of_bundle s text)
parts_from_current-in_part s name done text is named =
    let passes : current_part s done text ≡ record { name = name; bytes = done ++ take s.left text } ∷ [] =
    rw (is, named) refl in
    parts_from_current-prepend s done text ∙ ap (λ ps. prepend_parts ps (rest_of_bundle s text)) passes

-- ---- the number of bytes read

-- two calls together read no more than may come before the first
pub consumes_within-trans : (a b c : Option (List ℕ)) (most between after : ℕ)
    → ConsumesWithin most between a b
    → ConsumesWithin between after b c → ConsumesWithin most after a c
consumes_within-trans a b c most between after first more = (
  first.0 ++ more.0,
  omega (arith, first.1, more.1, length-append first.0 more.0),
  Consumes-trans a b c first.0 more.0 first.2 more.2,
)

-- reading that went on once goes on with a step that reads no more than may come
pub advances : (a b c : PartsState) → Advances a b → b.borrows ≡ c.borrows
    → ConsumesWithin (max_to_come b) (max_to_come c) b.remaining c.remaining → Advances a c
advances a b c first borrows more = (
  sym borrows ∙ first.0,
  consumes_within-trans a.remaining b.remaining c.remaining (max_to_come a) (max_to_come b)
      (max_to_come c) first.1 more,
)

-- reading that went on twice went on
pub advances_trans : (a b c : PartsState) → Advances a b → Advances b c → Advances a c
advances_trans a b c first then = advances a b c first (sym then.0) then.1
