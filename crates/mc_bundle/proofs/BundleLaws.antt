-- A bundle as a whole: the reading function agrees with the relation. And a loop that reads part after
-- part gives the same as the function.
use Rattle.std.proofs.Common.{true, arith, ◌≡◌, ◌≢◌, ℕ, zero, suc, ◌+◌, ◌-◌, ◌<◌, ◌≤◌, List, []}
use Rattle.std.proofs.Common.{◌∷◌, ◌++◌, length, take, Option, Some, None, Result, Ok, Err, refl}
use Rattle.std.proofs.Common.{sym, ap, subst, ◌∙◌, append_assoc}
use Rattle.std.specs.Prelude.{codes, IfOk}
use Rattle.std.specs.List.{AllByRecursion, flat_map}
use Rattle.std.specs.Str.{bytes_eq}
use Rattle.std.proofs.lemmas.List.{append-nil, take-append-drop, length-append}
use Rattle.std.proofs.lemmas.Slice.Eq.{bytes_eq-Decides}
use Rattle.mc_bundle.specs.declared.bundle_fault.BundleFault.{BundleFault}
use Rattle.mc_bundle.specs.declared.bundle_fault.BundleFault.TheVariants as faults
use Rattle.mc_bundle.specs.Bundle.{PartText, IsPartName, part_spelling, IsBundle, max_part}
use Rattle.mc_bundle.specs.Bundle.{max_bundle, max_parts}
use Rattle.mc_bundle.specs.BundleReading.{IsMemory, Gives, BundlePlace, next_part_from}
use Rattle.mc_bundle.specs.BundleReading.{with_parts_after, parts_from}
use Rattle.mc_bundle.specs.BundleReading.{bundle_of}
use Rattle.mc_text.specs.Steps.{◌>>=◌}
use Rattle.mc_text.proofs.StepLemmas.{bind_ok, ok_injective, with_front, with_front-more}
use Rattle.mc_bundle.proofs.BundlePlaces.{HasPart, IsLastLine, next_part_from-sound}
use Rattle.mc_bundle.proofs.BundlePlaces.{next_part_from-at_end, next_part_from-at_part}

-- the parts from a place on
abbrev pub parts_at : BundlePlace → Result (List PartText) BundleFault
parts_at place = parts_from place.parts place.room place.rest

-- the parts from a place on are the part there and those after it
parts_from-next : (n room : ℕ) (rest : List ℕ) (found : Result (Option (PartText × BundlePlace)) BundleFault)
    → next_part_from (record { parts = n; room = room; rest = rest }) ≡ found
    → parts_from n room rest ≡ (found >>= λ f. with_parts_after f parts_at)
unfolding parts_from
parts_from-next zero room rest (Ok found) at =
    grind (arith, next_part_from-sound (record { parts = 0; room = room; rest = rest }) found at)
parts_from-next (suc n) room rest (Ok found) at =
    grind (arith, next_part_from-sound (record { parts = suc n; room = room; rest = rest }) found at)
parts_from-next zero room rest (Err fault) at = rw at refl
parts_from-next (suc n) room rest (Err fault) at = rw at refl

-- ---- a loop over the parts

-- each part leaves fewer parts that may come
pub next_part_from-fewer_parts : (place : BundlePlace) (part : PartText) (next : BundlePlace)
    → next_part_from place ≡ Ok (Some (part, next)) → next.parts < place.parts
next_part_from-fewer_parts place part next e =
    omega (arith, (next_part_from-sound place (Some (part, next)) e).counted)

module _ (front : List PartText) (place : BundlePlace) (total : Result (List PartText) BundleFault) where
  -- after one more part the parts that were read and those to come are the same in all
  pub read_parts_more : (part : PartText) (next : BundlePlace) → next_part_from place ≡ Ok (Some (part, next))
      → with_front front (parts_at place) ≡ total
      → with_front (front ++ part ∷ []) (parts_at next) ≡ total
  read_parts_more part next e so_far =
      sym (with_front-more front (part ∷ []) (parts_at next))
      ∙ ap (with_front front) (sym (parts_from-next place.parts place.room place.rest _ e)) ∙ so_far

  -- at the end the parts that were read are all
  pub read_parts_all : next_part_from place ≡ Ok None → with_front front (parts_at place) ≡ total
      → total ≡ Ok front
  read_parts_all e so_far =
      sym so_far ∙ ap (with_front front) (parts_from-next place.parts place.room place.rest _ e)
      ∙ ap (λ (ps : List PartText). Ok ps) (append-nil front)

  -- a fault at a place is the fault of the whole
  pub read_parts_fault : (fault : BundleFault) → (¬ IsMemory fault → next_part_from place ≡ Err fault)
      → with_front front (parts_at place) ≡ total → ¬ IsMemory fault → total ≡ Err fault
  read_parts_fault fault h so_far not_oom =
      sym so_far ∙ ap (with_front front) (parts_from-next place.parts place.room place.rest _ (h not_oom))

-- ---- the parts of a place

-- the bytes at the place are these parts and the line `end`, within the limits of the place
record HasParts (place : BundlePlace) (parts : List PartText) : Type 0 where
  names : AllByRecursion (λ part. IsPartName part.name) parts
  sizes : AllByRecursion (λ part. length part.bytes ≤ max_part) parts
  count : length parts ≤ place.parts
  size : length (flat_map part_spelling parts ++ codes "end\n") ≤ place.room
  spelled : place.rest ≡ flat_map part_spelling parts ++ codes "end\n"

-- the length of a part and those after it
length-parts_cons : (part : PartText) (parts : List PartText)
    → length (flat_map part_spelling (part ∷ parts) ++ codes "end\n")
    ≡ length (part_spelling part) + length (flat_map part_spelling parts ++ codes "end\n")
length-parts_cons part parts = simp length-append (omega arith)

-- the bytes at a place are the parts that are read from there on
parts_at-sound : (n : ℕ) (place : BundlePlace) (found : Option (PartText × BundlePlace))
    (parts : List PartText)
    → place.parts ≡ n → next_part_from place ≡ Ok found → with_parts_after found parts_at ≡ Ok parts
    → HasParts place parts
parts_at-sound n place None parts is at e =
    let h : IsLastLine place = next_part_from-sound place None at in
    subst (HasParts place) (ok_injective [] parts e) (grind arith)
parts_at-sound zero place (Some found) parts is at e =
    absurd (omega (arith, (next_part_from-sound place (Some found) at).counted))
parts_at-sound (suc n) place (Some (part, next)) parts is at e =
    let h = next_part_from-sound place (Some (part, next)) at in
    let others = bind_ok (parts_at next) _ parts e in
    let found = bind_ok (next_part_from next) _ others.0
    (sym (parts_from-next next.parts next.room next.rest _ refl) ∙ others.1) in
    let more = parts_at-sound n next found.0 others.0 (omega (arith, h.counted)) found.1 found.2 in
    subst (HasParts place) (ok_injective (part ∷ others.0) parts others.2)
    (grind (arith, length-parts_cons part others.0, append_assoc))

-- the parts at a place are read
parts_at-complete : (place : BundlePlace) (parts : List PartText) → HasParts place parts
    → parts_at place ≡ Ok parts
parts_at-complete place [] h = parts_from-next place.parts place.room place.rest _
    (next_part_from-at_end place (record { room = h.size; rest = h.spelled }))
parts_at-complete place (part ∷ parts) h =
    let taken = length-parts_cons part parts in
    let next : BundlePlace = record {
      parts = place.parts - 1;
      room = place.room - length (part_spelling part);
      rest = flat_map part_spelling parts ++ codes "end\n";
    } in
    let first : HasPart place part next = grind (arith, taken, append_assoc) in
    let more = parts_at-complete next parts (grind (arith, taken)) in
    parts_from-next place.parts place.room place.rest _ (next_part_from-at_part place part next first)
    ∙ rw more refl

-- ---- the whole text

-- a text is a bundle of the parts that are read
pub bundle_of-sound : (text : List ℕ) (parts : List PartText) → bundle_of text ≡ Ok parts
    → IsBundle text parts
unfolding bundle_of
bundle_of-sound text parts e =
    let magic : bytes_eq (take 17 text) (codes "mcaudit bundle 1\n") ≡ true = grind arith in
    let front = (bytes_eq-Decides (take 17 text) (codes "mcaudit bundle 1\n")).0 magic in
    let read = rw magic at e in
    let found = bind_ok (next_part_from _) _ parts (sym (parts_from-next _ _ _ _ refl) ∙ read) in
    let all = parts_at-sound max_parts _ found.0 parts refl found.1 found.2 in
    grind (arith, take-append-drop 17 text)

-- a bundle is read as its parts
pub bundle_of-complete : (text : List ℕ) (parts : List PartText) → IsBundle text parts
    → bundle_of text ≡ Ok parts
unfolding bundle_of
bundle_of-complete text parts h = rw h.spelled (parts_at-complete (record {
  parts = max_parts;
  room = max_bundle - 17;
  rest = flat_map part_spelling parts ++ codes "end\n";
}) parts (grind arith))

-- a text is the bundle of at most one list of parts
pub bundle_has_unique_parts : (text : List ℕ) (ps qs : List PartText) → IsBundle text ps → IsBundle text qs
    → ps ≡ qs
bundle_has_unique_parts text ps qs p q =
    ok_injective ps qs (sym (bundle_of-complete text ps p) ∙ bundle_of-complete text qs q)

-- a result that is the reading function's is a bundle of the text
pub bundle_of-result_is_bundle : (text : List ℕ) (r : Result (List PartText) BundleFault)
    → Gives (λ parts. parts) r (bundle_of text) → IfOk r (IsBundle text)
bundle_of-result_is_bundle text r h = grind (arith, bundle_of-sound text)

-- such a result is the bundle's parts, unless memory runs out
pub bundle_of-result_is_parts : (text : List ℕ) (r : Result (List PartText) BundleFault)
    → Gives (λ parts. parts) r (bundle_of text)
    → (parts : List PartText) → IsBundle text parts → r ≢ Err faults.Memory → r ≡ Ok parts
bundle_of-result_is_parts text r h parts is_bundle other =
    grind (arith, bundle_of-complete text parts is_bundle)
