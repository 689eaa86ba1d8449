-- The vector of first entries, filled entry by entry.
use Rattle.std.proofs.Common.{◌≡◌, ℕ, ◌+◌, ◌<◌, Bool, true, not, List, [], ◌∷◌, ◌++◌, length, take, drop}
use Rattle.std.proofs.Common.{map, Bor, zero, suc, refl}
use Rattle.std.proofs.Common.{get_or, Option, Some, None, is_some, ap, sym, subst, ◌∙◌, arith}
use Rattle.std.specs.Prelude.{slice_set, IsSome}
use Rattle.std.specs.Option.{option_copied}
use Rattle.std.proofs.lemmas.List.{take_more, drop_more, length-set}
use Rattle.mc_theory.specs.Certificates.{Entry}
use Rattle.mc_theory.specs.Reasons.{entry_on, twice, ◌then◌, unless}
use Rattle.mc_theory.specs.Reasons.Reason.{TwoEntries}
use Rattle.mc_forward.specs.PerLan.{item_on_lan, HoldsFirstOfEachKey}
use Rattle.mc_forward.proofs.PerLanLemmas.{holds_first-put, first_with_key-entry_on}

-- the first k entries are stored, and no two of them name the same LAN
pub record FirstEntriesSoFar (firsts old : List (Option Entry)) (es : List Entry) (k : ℕ) : Type 0 where
  pub count : length firsts ≡ length old
  pub twice : twice (take k es) (drop k es) ≡ twice [] es
  pub filled : HoldsFirstOfEachKey (λ (e : Entry). e.lan) firsts (take k es)

-- an entry for a LAN that no earlier one names isn't the one that names a LAN twice
twice-cons_new_lan : (earlier es : List Entry) (e : Entry) → entry_on earlier e.lan ≡ None
    → twice earlier (e ∷ es) ≡ twice (earlier ++ e ∷ []) es
twice-cons_new_lan earlier es e none =
    ap (λ (o : Option Entry). unless (not (is_some o)) (TwoEntries e.lan) then twice
    (earlier ++ e ∷ []) es) none

-- the k-th entry is the first one whose LAN an earlier entry names
pub twice-already_named : (firsts old : List (Option Entry)) (es : List Entry) (k : ℕ) (e : Entry)
    → FirstEntriesSoFar firsts old es k → k < length es → e ≡ get_or es k e
    → IsSome (item_on_lan firsts e.lan)
    → Some (TwoEntries e.lan) ≡ twice [] es
twice-already_named firsts old es k e t lt at some =
    let rest : drop k es ≡ e ∷ drop (k + 1) es = drop_more es k e lt
    ∙ ap (λ x. x ∷ drop (k + 1) es) (sym at) in
    let again : is_some (entry_on (take k es) e.lan) ≡ true =
    ap is_some (sym (t.filled e.lan ∙ first_with_key-entry_on (take k es) e.lan)) ∙ some in
    sym (sym t.twice ∙ (ap (twice (take k es)) rest
    ∙ ap (λ (b : Bool). unless (not b) (TwoEntries e.lan) then twice (take k es ++ e ∷ [])
    (drop (k + 1) es)) again))

-- one entry more, for a LAN that no earlier one names
pub first_entries-more : (firsts firsts' old : List (Option Entry)) (es : List Entry) (k : ℕ) (e : Entry)
    → FirstEntriesSoFar firsts old es k → k < length es → e ≡ get_or es k e → e.lan < length old
    → item_on_lan firsts e.lan ≡ None → firsts' ≡ slice_set firsts e.lan (Some e)
    → FirstEntriesSoFar firsts' old es (k + 1)
first_entries-more firsts firsts' old es k e t lt at within free put =
    let more : take (k + 1) es ≡ take k es ++ e ∷ [] = take_more es k e lt
    ∙ ap (λ x. take k es ++ x ∷ []) (sym at) in
    let rest : drop k es ≡ e ∷ drop (k + 1) es = drop_more es k e lt
    ∙ ap (λ x. x ∷ drop (k + 1) es) (sym at) in
    let none : entry_on (take k es) e.lan ≡ None = sym (first_with_key-entry_on (take k es) e.lan)
    ∙ (sym (t.filled e.lan) ∙ free) in
    let within_now : e.lan < length firsts = omega (arith, t.count, within) in
    record {
      count = ap length put ∙ (length-set firsts e.lan (Some e) ∙ t.count);
      twice = ap (λ xs. twice xs (drop (k + 1) es)) more
          ∙ (sym (twice-cons_new_lan (take k es) (drop (k + 1) es) e none)
          ∙ (ap (twice (take k es)) (sym rest) ∙ t.twice));
      filled = subst (λ xs. HoldsFirstOfEachKey (λ (x : Entry). x.lan) firsts' xs) (sym more)
          (subst (λ xs. HoldsFirstOfEachKey (λ (x : Entry). x.lan) xs (take k es ++ e ∷ [])) (sym put)
          (holds_first-put (λ (x : Entry). x.lan) firsts (take k es) e within_now t.filled free));
    }

-- ---- references to the entries, at the places of their LANs

-- the entry that is referred to at a place
pub item_on_lan-copied : (firsts : List (Option (Bor Entry))) (lan : ℕ)
    → item_on_lan (map option_copied firsts) lan ≡ option_copied (item_on_lan firsts lan)
item_on_lan-copied [] lan = refl
item_on_lan-copied (first ∷ firsts) zero = refl
item_on_lan-copied (first ∷ firsts) (suc lan) = item_on_lan-copied firsts lan

-- where none is referred to, there is none
pub none-copied : (firsts : List (Option (Bor Entry))) (lan : ℕ) → item_on_lan firsts lan ≡ None
    → item_on_lan (map option_copied firsts) lan ≡ None
none-copied firsts lan none = item_on_lan-copied firsts lan ∙ ap option_copied none

-- where one is, it is there
pub is_some-copied : (firsts : List (Option (Bor Entry))) (lan : ℕ) → IsSome (item_on_lan firsts lan)
    → IsSome (item_on_lan (map option_copied firsts) lan)
is_some-copied firsts lan some =
    ap is_some (item_on_lan-copied firsts lan) ∙ still (item_on_lan firsts lan) some
  where
    still : (o : Option (Bor Entry)) → IsSome o → is_some (option_copied o) ≡ true
    still None some = some
    still (Some entry) some = refl

-- and one that is put there is
pub set-copied : (firsts : List (Option (Bor Entry))) (lan : ℕ) (entry : Bor Entry)
    → map option_copied (slice_set firsts lan (Some entry))
    ≡ slice_set (map option_copied firsts) lan (Some entry.now)
set-copied [] lan entry = refl
set-copied (first ∷ firsts) zero entry = refl
set-copied (first ∷ firsts) (suc lan) entry = ap (λ l. option_copied first ∷ l) (set-copied firsts lan entry)
