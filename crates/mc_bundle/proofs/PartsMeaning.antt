-- Reading a bundle part by part gives the parts of the whole bundle.
use Rattle.std.proofs.Common.{◌≡◌, ℕ, zero, suc, ◌+◌, ◌-◌, ◌≤◌, Bool, true, false, cond, eqb, List}
use Rattle.std.proofs.Common.{[], ◌∷◌, ◌++◌, length, take, drop, Option, Some, None, Result, Ok, Err}
use Rattle.std.proofs.Common.{refl, sym, ap, ◌∙◌, arith, inl, inr, leb, get_or, append_assoc}
use Rattle.std.specs.Prelude.{codes, nat_lt, ◌≢◌, ◌⊎◌, IsSome}
use Rattle.std.specs.Str.{bytes_eq}
use Rattle.std.specs.Borrow.{GName}
use Rattle.std.specs.Io.KnownBytes.{Consumes, IsAtEnd}
use Rattle.std.proofs.Math.Seq.{take-append-add, drop-append-add, get_or-append-add}
use Rattle.std.proofs.lemmas.Bool.{cases_Bool, le-leb}
use Rattle.std.proofs.lemmas.List.{length-append}
use Rattle.std.proofs.lemmas.Bool.Decides.{nat_tests}
use Rattle.mc_bundle.specs.declared.bundle_fault.BundleFault.{BundleFault}
use Rattle.mc_bundle.specs.declared.bundle_fault.BundleFault.TheVariants as faults
use Rattle.mc_bundle.specs.declared.stage.OpenPart.{OpenPart}
use Rattle.mc_bundle.specs.declared.stage.Stage.TheVariants as stages
use Rattle.mc_text.specs.Steps.{◌>>=◌}
use Rattle.mc_bundle.specs.Bundle.{PartText, max_parts, max_bundle}
use Rattle.mc_bundle.specs.BundleReading.{BundlePlace, line_at, parse_part_line, part_bytes_at, part_room}
use Rattle.mc_bundle.specs.BundleReading.{is_too_large, part_for_line, end_for_line, next_part_from}
use Rattle.mc_bundle.specs.BundleReading.{with_parts_after, parts_from, bundle_of}
use Rattle.mc_bundle.specs.PartsReading.{ReadsAs, opened_part, opened_by_line}
use Rattle.mc_bundle.specs.PartsReading.{opened_at, opened_next, PartsState, IsValidPartsState}
use Rattle.mc_bundle.specs.PartsReading.{parts_from_current, current_part}
use Rattle.mc_bundle.specs.PartsReading.{place_within, prepend_parts, part_and_rest, parts_of_opened}

-- ---- a line

-- the parts from an opened one on
abbrev parts_after_line : Option OpenPart × List ℕ → Result (List PartText) BundleFault
parts_after_line o = parts_of_opened o.0 o.1

-- the end is read alike part by part and as a whole
end_for_line-opened_end : (small none : Bool) (after : List ℕ)
    (P : Option (PartText × BundlePlace) → Result (List PartText) BundleFault) → P None ≡ Ok []
    → (cond small (Err faults.TooLarge) (cond none (Ok None) (Err faults.AfterEnd)) >>= P)
    ≡ (cond small (Err faults.TooLarge) (cond none (Ok (None, after)) (Err faults.AfterEnd))
    >>= parts_after_line)
end_for_line-opened_end true none after P ends = refl
end_for_line-opened_end false true after P ends = ends
end_for_line-opened_end false false after P ends = refl

-- a part's bytes, and then the parts after it, are the part and its others
part_bytes-then_parts : (n room : ℕ) (name : List ℕ) (parts : ℕ)
    (found : Result (List ℕ × List ℕ) BundleFault)
    → ((found >>= λ f. let part : PartText = record { name = name; bytes = f.0 } in
    let next : BundlePlace = record { parts = parts; room = room; rest = f.1 } in
    Ok (Some (part, next)))
    >>= λ o. with_parts_after o (λ place. parts_from n place.room place.rest))
    ≡ (found >>= λ f. parts_from n room f.1 >>= λ others.
    let part : PartText = record { name = name; bytes = [] ++ f.0 } in Ok (part ∷ others))
part_bytes-then_parts n room name parts (Ok f) = refl
part_bytes-then_parts n room name parts (Err fault) = refl

-- one less than the successor of a number is the number
suc-minus_one : (n : ℕ) → suc n - 1 ≡ n
suc-minus_one n = omega arith

-- a part's line is read alike part by part and as a whole
part_for_line-opened_part : (n room : ℕ) (line after text : List ℕ) (header : Option (List ℕ × ℕ))
    → (part_for_line (record { parts = suc n; room = room; rest = text }) line after header
    >>= λ o. with_parts_after o (λ place. parts_from n place.room place.rest))
    ≡ ((opened_part (suc n) room line header >>= λ part. Ok (Some part, after)) >>= parts_after_line)
part_for_line-opened_part n room line after text None = refl
part_for_line-opened_part n room line after text (Some s) =
    elim (cases_Bool (is_too_large (record { parts = suc n; room = room; rest = text }) line s.1)) [
      | inl large ↦ rw large refl
      | inr fits ↦ rw fits
          (part_bytes-then_parts n (room - part_room line s.1) s.0 (suc n - 1) (part_bytes_at s.1 after)
          ∙ ap (λ m. part_and_rest s.0 [] s.1
          (record { parts = m; room = room - part_room line s.1; rest = after }))
          (sym (suc-minus_one n)))
    ]

-- if no more parts may come, a part's line is refused
part_for_line-no_part_left : (room : ℕ) (line after text : List ℕ) (header : Option (List ℕ × ℕ))
    → (part_for_line (record { parts = 0; room = room; rest = text }) line after header >>= λ _. Ok [])
    ≡ ((opened_part 0 room line header >>= λ part. Ok (Some part, after)) >>= parts_after_line)
part_for_line-no_part_left room line after text None = refl
part_for_line-no_part_left room line after text (Some s) = refl

-- a line is read alike, be it a part's or the end's
end_or_part-opened_by_line : (parts room : ℕ) (text : List ℕ) (cut : List ℕ × List ℕ)
    (P : Option (PartText × BundlePlace) → Result (List PartText) BundleFault) → P None ≡ Ok []
    → (part_for_line (record { parts = parts; room = room; rest = text }) cut.0 cut.1 (parse_part_line cut.0)
    >>= P)
    ≡ ((opened_part parts room cut.0 (parse_part_line cut.0) >>= λ part. Ok (Some part, cut.1))
    >>= parts_after_line)
    → (cond (bytes_eq cut.0 (codes "end"))
    (end_for_line (record { parts = parts; room = room; rest = text }) cut.1)
    (part_for_line (record { parts = parts; room = room; rest = text }) cut.0 cut.1 (parse_part_line cut.0))
    >>= P) ≡ (opened_by_line parts room cut >>= parts_after_line)
end_or_part-opened_by_line parts room text cut P ends same =
    elim (cases_Bool (bytes_eq cut.0 (codes "end"))) [
      | inl is ↦ rw is (end_for_line-opened_end (nat_lt room 4) (eqb (length cut.1) 0) cut.1 P ends)
      | inr other ↦ rw other same
    ]

-- the same for the result of cutting a line
line_at-opened_by_line : (parts room : ℕ) (text : List ℕ) (cut : Result (List ℕ × List ℕ) BundleFault)
    (P : Option (PartText × BundlePlace) → Result (List PartText) BundleFault) → P None ≡ Ok []
    → ((c : List ℕ × List ℕ)
    → (part_for_line (record { parts = parts; room = room; rest = text }) c.0 c.1 (parse_part_line c.0) >>= P)
    ≡ ((opened_part parts room c.0 (parse_part_line c.0) >>= λ part. Ok (Some part, c.1))
    >>= parts_after_line))
    → ((cut >>= λ c. cond (bytes_eq c.0 (codes "end"))
    (end_for_line (record { parts = parts; room = room; rest = text }) c.1)
    (part_for_line (record { parts = parts; room = room; rest = text }) c.0 c.1 (parse_part_line c.0)))
    >>= P) ≡ ((cut >>= opened_by_line parts room) >>= parts_after_line)
line_at-opened_by_line parts room text (Err fault) P ends same = refl
line_at-opened_by_line parts room text (Ok c) P ends same =
    end_or_part-opened_by_line parts room text c P ends (same c)

-- the parts from a line on are the one that it opens and those after it
pub parts_from-opened_at : (parts room : ℕ) (text : List ℕ)
    → parts_from parts room text ≡ (opened_at parts room text >>= parts_after_line)
unfolding parts_from next_part_from
parts_from-opened_at zero room text =
    line_at-opened_by_line 0 room text (line_at text) (λ _. Ok []) refl
    (λ c. part_for_line-no_part_left room c.0 c.1 text (parse_part_line c.0))
parts_from-opened_at (suc n) room text =
    line_at-opened_by_line (suc n) room text (line_at text)
    (λ o. with_parts_after o (λ place. parts_from n place.room place.rest)) refl
    (λ c. part_for_line-opened_part n room c.0 c.1 text (parse_part_line c.0))

-- ---- the next part

-- no parts, prepended, change nothing
pub prepend_parts-nil : (read : Result (List PartText) BundleFault) → prepend_parts [] read ≡ read
prepend_parts-nil (Ok parts) = refl
prepend_parts-nil (Err fault) = refl

-- the same after a step
prepend_parts-nil_each : (r : Result (Option OpenPart × List ℕ) BundleFault)
    → (r >>= parts_after_line) ≡ (r >>= λ o. prepend_parts [] (parts_after_line o))
prepend_parts-nil_each (Ok o) = sym (prepend_parts-nil (parts_after_line o))
prepend_parts-nil_each (Err fault) = refl

-- at the start all parts are those from the first line on
bundle_of-opened_next : (text : List ℕ) (left : ℕ) → bundle_of text
    ≡ (opened_next true left max_parts (max_bundle - 17) text >>= λ o. prepend_parts [] (parts_after_line o))
unfolding bundle_of
bundle_of-opened_next text left =
    elim (cases_Bool (bytes_eq (take 17 text) (codes "mcaudit bundle 1\n"))) [
      | inl is ↦ rw is (parts_from-opened_at max_parts (max_bundle - 17) (drop 17 text)
          ∙ prepend_parts-nil_each (opened_at max_parts (max_bundle - 17) (drop 17 text)))
      | inr other ↦ rw other refl
    ]

-- the bytes of a part are the first `left` of the text
pub part_bytes_at-take : (left : ℕ) (text : List ℕ) (found : List ℕ × List ℕ)
    → part_bytes_at left text ≡ Ok found → found.0 ≡ take left text
unfolding part_bytes_at
part_bytes_at-take left text found e = grind (arith, nat_tests)

-- one part, prepended after a step
prepend_parts-one : (part : PartText) (r : Result (Option OpenPart × List ℕ) BundleFault)
    → ((r >>= parts_after_line) >>= λ others. Ok (part ∷ others))
    ≡ (r >>= λ o. prepend_parts (part ∷ []) (parts_after_line o))
prepend_parts-one part (Ok o) = refl
prepend_parts-one part (Err fault) = refl

-- the bytes after a part, with the part dropped
abbrev skipped_part : List ℕ × List ℕ → Result (Unit {0} × List ℕ) BundleFault
skipped_part f = Ok (tt, f.1)

-- in a part, the current part and the rest are it and the parts from the next line on
rest_of_part-opened_at : (name done : List ℕ) (left parts room : ℕ) (text : List ℕ)
    (found : Result (List ℕ × List ℕ) BundleFault) → part_bytes_at left text ≡ found
    → (found >>= λ f. parts_from parts room f.1 >>= λ others.
    let part : PartText = record { name = name; bytes = done ++ f.0 } in Ok (part ∷ others))
    ≡ (((found >>= skipped_part) >>= λ f. opened_at parts room f.1) >>= λ o.
    prepend_parts (record { name = name; bytes = done ++ take left text } ∷ []) (parts_after_line o))
rest_of_part-opened_at name done left parts room text (Err fault) is = refl
rest_of_part-opened_at name done left parts room text (Ok f) is =
    let part : PartText = record { name = name; bytes = done ++ f.0 } in
    ap (λ r. r >>= λ others. Ok (part ∷ others)) (parts_from-opened_at parts room f.1)
    ∙ prepend_parts-one part (opened_at parts room f.1)
    ∙ ap (λ bytes. let p : PartText = record { name = name; bytes = done ++ bytes } in
    opened_at parts room f.1 >>= λ o. prepend_parts (p ∷ []) (parts_after_line o))
    (part_bytes_at-take left text f is)

-- a part and those after it are the part, what the next line opens, and the parts after that
part_and_rest-opened_next : (name done : List ℕ) (left parts room : ℕ) (text : List ℕ)
    → part_and_rest name done left (record { parts = parts; room = room; rest = text })
    ≡ (opened_next false left parts room text >>= λ o.
    prepend_parts (record { name = name; bytes = done ++ take left text } ∷ []) (parts_after_line o))
part_and_rest-opened_next name done left parts room text =
    rest_of_part-opened_at name done left parts room text (part_bytes_at left text) refl

-- ---- results of reading

-- a result `Ok`, if the input's bytes are known
pub reads_as-ok : {X Y : Type 0} (view : X → Y) (old new : Option (List ℕ))
    (answer : Result X BundleFault) (read : List ℕ → Result (Y × List ℕ) BundleFault)
    (text : List ℕ) (x : X) → ReadsAs view old new answer read → old ≡ Some text → answer ≡ Ok x
    → (later : List ℕ) × (new ≡ Some later) × (read text ≡ Ok (view x, later))
reads_as-ok view None new answer read text x reads remaining is = absurd cc
reads_as-ok view (Some other) None (Ok y) read text x reads remaining is = absurd reads
reads_as-ok view (Some other) (Some later) (Ok y) read text x reads remaining is =
    let same : other ≡ text = cc in
    let value : y ≡ x = cc in
    (later, refl, ap read (sym same) ∙ reads ∙ ap (λ z. Ok (view z, later)) value)
reads_as-ok view (Some other) new (Err fault) read text x reads remaining is = absurd cc

-- a fault, if the input's bytes are known
reads_as-fault : {X Y : Type 0} (view : X → Y) (other : List ℕ) (new : Option (List ℕ))
    (fault : BundleFault) (read : List ℕ → Result (Y × List ℕ) BundleFault)
    → ReadsAs view (Some other) new (Err fault) read → fault ≢ faults.Read → read other ≡ Err fault
reads_as-fault view other new faults.Read read reads there = absurd (there refl)
reads_as-fault view other new fault read reads there = reads

-- a result `Err`, if the input's bytes are known and no read failed
pub reads_as-err : {X Y : Type 0} (view : X → Y) (old new : Option (List ℕ))
    (answer : Result X BundleFault) (read : List ℕ → Result (Y × List ℕ) BundleFault)
    (text : List ℕ) (fault : BundleFault) → ReadsAs view old new answer read → old ≡ Some text
    → answer ≡ Err fault → fault ≢ faults.Read → read text ≡ Err fault
reads_as-err view None new answer read text fault reads remaining is there = absurd cc
reads_as-err view (Some other) new (Ok y) read text fault reads remaining is there = absurd cc
reads_as-err view (Some other) new (Err own) read text fault reads remaining is there =
    let same : other ≡ text = cc in
    let value : own ≡ fault = cc in
    ap read (sym same)
    ∙ reads_as-fault view other new own read reads (λ e. there (sym value ∙ e)) ∙ ap Err value

-- ---- the state of reading

-- an option that has a value is `Some` of it
some_from_is_some : {A : Type 0} (o : Option A) → IsSome o → (x : A) × (o ≡ Some x)
some_from_is_some None there = absurd cc
some_from_is_some (Some x) there = (x, refl)

-- at the start and in a part, the parts from the current one on are it, the next one and those after it
pub parts_from_current-opened_next : (s : PartsState) (start : Bool) (done text : List ℕ)
    → IsValidPartsState s
    → ((s.stage ≡ stages.Start) × (start ≡ true)) ⊎ ((s.stage ≡ stages.Part) × (start ≡ false))
    → parts_from_current s done text
    ≡ (opened_next start s.left s.parts s.room text >>= λ o. prepend_parts (current_part s done text)
    (parts_after_line o))
parts_from_current-opened_next s start done text rules (inl (is, at)) =
    let places = rules.start is in
    rw (is, at, places.0, places.1) (bundle_of-opened_next text s.left)
parts_from_current-opened_next s start done text rules (inr (is, at)) =
    let name = some_from_is_some s.name (rules.named is) in
    rw (is, at, name.1) (part_and_rest-opened_next name.0 done s.left s.parts s.room text)

-- ---- reading a part's bytes

-- a known text is the bytes that were read from it and the remaining ones
pub split-from_Consumes : (old new : Option (List ℕ)) (taken text : List ℕ) → Consumes old new taken
    → old ≡ Some text → (later : List ℕ) × (new ≡ Some later) × (text ≡ taken ++ later)
split-from_Consumes None new taken text first remaining = absurd cc
split-from_Consumes (Some other) None taken text first remaining = absurd first
split-from_Consumes (Some other) (Some later) taken text first remaining =
    let same : text ≡ other = cc in
    (later, refl, same ∙ first)

-- at the input's end, with nothing read, the text is empty
pub text-nil_at_end : (old new : Option (List ℕ)) (taken text : List ℕ) → Consumes old new taken
    → old ≡ Some text → taken ≡ [] → IsAtEnd new → text ≡ []
text-nil_at_end None new taken text first remaining none end = absurd cc
text-nil_at_end (Some other) None taken text first remaining none end = absurd first
text-nil_at_end (Some other) (Some later) taken text first remaining none end =
    let same : text ≡ other = cc in
    same ∙ first ∙ ap (λ t. t ++ later) none ∙ end

-- a part's bytes at the end of the text are truncated
part_bytes_at-nil : (left : ℕ) → part_bytes_at left [] ≡ Err faults.Truncated
unfolding part_bytes_at
part_bytes_at-nil left = rw (le-leb 0 left (omega arith)) refl

-- if the input ends within a part, the bundle is truncated
pub parts_from_current-truncated : (s : PartsState) (done text : List ℕ) → IsValidPartsState s
    → s.stage ≡ stages.Part
    → text ≡ [] → parts_from_current s done text ≡ Err faults.Truncated
parts_from_current-truncated s done text rules is none =
    let name = some_from_is_some s.name (rules.named is) in
    rw (is, name.1, none, part_bytes_at-nil s.left) refl

-- a part's bytes, with some bytes prepended
abbrev prepend_bytes : List ℕ → List ℕ × List ℕ → Result (List ℕ × List ℕ) BundleFault
prepend_bytes taken f = Ok (taken ++ f.0, f.1)

-- prepending bytes commutes with the tests of reading a part
cond-prepend_bytes : (short feed : Bool) (taken : List ℕ) (f : List ℕ × List ℕ)
    → cond short (Err faults.Truncated) (cond feed (prepend_bytes taken f) (Err faults.BadPartLine))
    ≡ (cond short (Err faults.Truncated) (cond feed (Ok f) (Err faults.BadPartLine))
    >>= prepend_bytes taken)
cond-prepend_bytes true feed taken f = refl
cond-prepend_bytes false true taken f = refl
cond-prepend_bytes false false taken f = refl

-- the bytes of a part of which the first ones were taken, with these prepended
part_bytes_at-prepend_bytes : (taken later : List ℕ) (m : ℕ)
    → part_bytes_at (length taken + m) (taken ++ later)
    ≡ (part_bytes_at m later >>= prepend_bytes taken)
unfolding part_bytes_at
part_bytes_at-prepend_bytes taken later m =
    let short : leb (length (taken ++ later)) (length taken + m) ≡ leb (length later) m =
    grind (arith, nat_tests, length-append taken later) in
    let at : get_or (taken ++ later) (length taken + m) 0 ≡ get_or later m 0 =
    get_or-append-add taken later m 0 in
    let front = take-append-add taken later m in
    let one : length taken + m + 1 ≡ length taken + (m + 1) = omega arith in
    let back : drop (length taken + m + 1) (taken ++ later) ≡ drop (m + 1) later =
    ap (λ n. drop n (taken ++ later)) one ∙ drop-append-add taken later (m + 1) in
    rw (short, at, front, back)
    (cond-prepend_bytes (leb (length later) m) (eqb (get_or later m 0) 10) taken
    (take m later, drop (m + 1) later))

-- reading bytes of a part moves them from the text to the bytes that were read
part_and_rest-moved : (name done taken : List ℕ) (parts room : ℕ)
    (found : Result (List ℕ × List ℕ) BundleFault)
    → ((found >>= prepend_bytes taken) >>= λ f.
    parts_from parts room f.1 >>= λ others.
    let part : PartText = record { name = name; bytes = done ++ f.0 } in Ok (part ∷ others))
    ≡ (found >>= λ f. parts_from parts room f.1 >>= λ others.
    let part : PartText = record { name = name; bytes = (done ++ taken) ++ f.0 } in
    Ok (part ∷ others))
part_and_rest-moved name done taken parts room (Err fault) = refl
part_and_rest-moved name done taken parts room (Ok f) =
    ap (λ bytes. parts_from parts room f.1 >>= λ others.
    let part : PartText = record { name = name; bytes = bytes } in Ok (part ∷ others))
    (sym (append_assoc done taken f.0))

-- a part and those after it are the same before and after a read of some of the part's bytes
pub part_and_rest-read_more : (name done taken later : List ℕ) (m parts room : ℕ)
    → part_and_rest name done (length taken + m)
    (record { parts = parts; room = room; rest = taken ++ later })
    ≡ part_and_rest name (done ++ taken) m (record { parts = parts; room = room; rest = later })
part_and_rest-read_more name done taken later m parts room =
    ap (λ r. r >>= λ f. parts_from parts room f.1 >>= λ others.
    let part : PartText = record { name = name; bytes = done ++ f.0 } in Ok (part ∷ others))
    (part_bytes_at-prepend_bytes taken later m)
    ∙ part_and_rest-moved name done taken parts room (part_bytes_at m later)

-- after a read within the current part, the parts from it on are the same
pub parts_from_current-read_more : (s : PartsState) (done taken later : List ℕ) (remaining : Option (List ℕ))
    (failed : ℕ)
    (borrows : List GName) → IsValidPartsState s → s.stage ≡ stages.Part → length taken ≤ s.left
    → parts_from_current s done (taken ++ later)
    ≡ parts_from_current (record {
      stage = s.stage;
      parts = s.parts;
      room = s.room;
      name = s.name;
      size = s.size;
      left = s.left - length taken;
      remaining = remaining;
      failed = failed;
      borrows = borrows;
    }) (done ++ taken) later
parts_from_current-read_more s done taken later remaining failed borrows rules is within =
    let name = some_from_is_some s.name (rules.named is) in
    let left : length taken + (s.left - length taken) ≡ s.left = omega arith in
    rw (is, name.1)
    (ap (λ n. part_and_rest name.0 done n (place_within s (taken ++ later))) (sym left)
    ∙ part_and_rest-read_more name.0 done taken later (s.left - length taken) s.parts s.room)
