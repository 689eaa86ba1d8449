-- First copies and their paths, as the code finds them.
use Rattle.std.proofs.Common.{◌≡◌, ℕ, List, [], ◌∷◌, ◌++◌, length, Option, Some, None, refl, ap, ap₂}
use Rattle.std.proofs.Common.{sym, subst, ◌∙◌, append_assoc, map, reverse}
use Rattle.mc_theory.specs.Nets.{Net, Interface}
use Rattle.mc_theory.specs.Flights.{Copy, Flight}
use Rattle.mc_theory.specs.Findings.{first_copy_on, first_double}
use Rattle.mc_theory.specs.Paths.{Hop, IsStopped, PassesHops, need}
use Rattle.mc_theory.specs.Hops.{hops_back, hops_of_copy, hops_until, stopping_hop}
use Rattle.mc_theory.proofs.CameByHops.{copy_equal-from_some}
use Rattle.mc_theory.proofs.StoppingHop.{stopping_hop-none, stopping_hop-some}
use Rattle.mc_forward.specs.PerLan.{HoldsFirstOfEachKey, item_on_lan}
use Rattle.mc_forward.proofs.PerLanLemmas.{first_with_key-first_copy_on}
use Rattle.mc_explain.specs.declared.causes.Cause.{Cause}
use Rattle.mc_explain.specs.declared.causes.Cause.TheVariants.{TakeOut}
use Rattle.mc_explain.specs.Explained.{IsRemedy, circle_cause, sender_causes}
use Rattle.mc_explain.specs.LastFlights.{IsSecondCopy}

-- the copy that is held for a LAN is its first one
pub first_copy_on-from_held : (first_copies : List (Option Copy)) (cs copies : List Copy) (k l : ℕ)
    (o : Option Copy) → HoldsFirstOfEachKey (λ (c : Copy). c.lan) first_copies copies → copies ≡ cs → k ≡ l →
    o ≡ item_on_lan first_copies k → o ≡ first_copy_on cs l
first_copy_on-from_held first_copies cs copies k l o are same lan e = e
    ∙ (are k ∙ (first_with_key-first_copy_on copies k ∙
    ap₂ (λ (xs : List Copy) (m : ℕ). first_copy_on xs m) same lan))

-- so there is one, and it is the first
pub held-not_none_on_first : (first_copies : List (Option Copy)) (cs copies : List Copy) (k l : ℕ)
    (o : Option Copy)
    (first : Copy) → HoldsFirstOfEachKey (λ (c : Copy). c.lan) first_copies copies → copies ≡ cs → k ≡ l →
    o ≡ item_on_lan first_copies k → o ≡ None → first_copy_on cs l ≡ Some first → ⊥
held-not_none_on_first first_copies cs copies k l o first are same lan e none on =
    let both : None ≡ Some first = sym none ∙
    (first_copy_on-from_held first_copies cs copies k l o are same lan e ∙ on) in cc

-- a copy that is held for a LAN is the first one carried on it
pub first_copy_on-from_held_some : (first_copies : List (Option Copy)) (cs copies : List Copy) (k l : ℕ)
    (o : Option Copy)
    (got : Copy) → HoldsFirstOfEachKey (λ (c : Copy). c.lan) first_copies copies → copies ≡ cs → k ≡ l →
    o ≡ item_on_lan first_copies k → o ≡ Some got → first_copy_on cs l ≡ Some got
first_copy_on-from_held_some first_copies cs copies k l o got are same lan e some =
    sym (first_copy_on-from_held first_copies cs copies k l o are same lan e) ∙ some

-- so it is the one that is the LAN's first copy
pub held-is_first_copy : (first_copies : List (Option Copy)) (cs copies : List Copy) (k l : ℕ)
    (o : Option Copy)
    (got first : Copy) → HoldsFirstOfEachKey (λ (c : Copy). c.lan) first_copies copies → copies ≡ cs → k ≡ l →
    o ≡ item_on_lan first_copies k → o ≡ Some got → first_copy_on cs l ≡ Some first → got ≡ first
held-is_first_copy first_copies cs copies k l o got first are same lan e some on =
    copy_equal-from_some (first_copy_on cs l) got first (first_copy_on-from_held_some first_copies cs copies
    k l o got are same lan e some) on

-- the hops that were found are the copy's path
pub found_hops-are_path : (n : Net) (cs copies : List Copy) (first got : Copy) (items now : List Hop) →
    copies ≡ cs → got ≡ first → items ≡ hops_back n copies (length copies) got.lan got.sender →
    now ≡ items → now ≡ hops_of_copy n cs first
found_hops-are_path n cs copies first got items now same one e e' = e' ∙ (e ∙
    (ap (λ (xs : List Copy). hops_back n xs (length xs) got.lan got.sender) same ∙
    ap (hops_of_copy n cs) one))

-- the second copy's sender can be taken out
pub is_remedy-from_second_copy : (n : Net) (f : Flight) (second : Copy) (lan router vif least : ℕ) →
    (is : IsSecondCopy n f.carried second) → lan ≡ second.lan → second.sender ≡ Some (router, vif) →
    least ≡ need (hops_of_copy n f.carried is.first) →
    IsRemedy n f second.lan second (TakeOut lan router vif least)
is_remedy-from_second_copy n f second lan router vif least is on sent e = record {
  sender = (router, vif);
  path = hops_of_copy n f.carried is.first;
  on = refl;
  spare = record {
    first_double = is.is_double;
    sender = sent;
    first = is.first;
    first_on = is.path.on;
    came_by_hops = is.path.came_by_hops;
  };
  cause_is = ap₂ (λ (l k : ℕ). TakeOut l router vif k) on e;
}

-- if no hop stops a packet, it gets through
pub passes_hops-from_no_stop : (t u : ℕ) (now path : List Hop) (o : Option (Hop × ℕ)) → o
    ≡ stopping_hop u now →
    u ≡ t → now ≡ path → o ≡ None → PassesHops t path
passes_hops-from_no_stop t u now path o found ttl same none =
    (stopping_hop-none t path).0 (sym (ap₂ stopping_hop ttl same) ∙ (sym found ∙ none))

-- if a hop stops it, it is stopped there
pub is_stopped-from_stop : (t u : ℕ) (now path : List Hop) (o : Option (Hop × ℕ)) (h : Hop) (left : ℕ) →
    o ≡ stopping_hop u now → u ≡ t → now ≡ path → o ≡ Some (h, left) → IsStopped t path h left
is_stopped-from_stop t u now path o h left found ttl same one =
    (stopping_hop-some t path h left).0 (sym (ap₂ stopping_hop ttl same) ∙ (sym found ∙ one))

-- ---- causes, one by one

-- two senders and the remedy
pub causes-two_senders : (lan : ℕ) (x y a b : Option Interface) (r : Cause) (ts us vs ws : List Cause) →
    ts ≡ [] → us ≡ ts ++ sender_causes lan a → vs ≡ us ++ sender_causes lan b → ws ≡ vs ++ r ∷ [] →
    a ≡ x → b ≡ y → ws ≡ sender_causes lan x ++ (sender_causes lan y ++ r ∷ [])
causes-two_senders lan x y a b r ts us vs ws e₁ e₂ e₃ e₄ p q = e₄ ∙
    (ap (λ (zs : List Cause). zs ++ r ∷ []) (e₃ ∙ ap (λ (zs : List Cause). zs ++ sender_causes lan b)
    (e₂ ∙ ap (λ (zs : List Cause). zs ++ sender_causes lan a) e₁)) ∙
    (append_assoc (sender_causes lan a) (sender_causes lan b) (r ∷ []) ∙
    ap₂ (λ (c d : Option Interface). sender_causes lan c ++ (sender_causes lan d ++ r ∷ [])) p q))

-- two senders, without a remedy
pub causes-two_senders_alone : (k lan : ℕ) (x y a b : Option Interface) (ts us vs : List Cause) → ts ≡ [] →
    us ≡ ts ++ sender_causes k a → vs ≡ us ++ sender_causes k b → k ≡ lan → a ≡ x → b ≡ y →
    vs ≡ sender_causes lan x ++ sender_causes lan y
causes-two_senders_alone k lan x y a b ts us vs e₁ e₂ e₃ same p q = e₃
    ∙ ap (λ (zs : List Cause). zs ++ sender_causes k b)
    (e₂ ∙ ap (λ (zs : List Cause). zs ++ sender_causes k a) e₁) ∙
    ap₂ (λ (us vs : List Cause). us ++ vs) (ap₂ sender_causes same p) (ap₂ sender_causes same q)

-- two causes
pub causes-two_pushed : (r s : Cause) (ts us vs : List Cause) → ts ≡ [] → us ≡ ts ++ r ∷ [] →
    vs ≡ us ++ s ∷ [] → vs ≡ r ∷ s ∷ []
causes-two_pushed r s ts us vs e₁ e₂ e₃ = e₃ ∙ ap (λ (zs : List Cause). zs ++ s ∷ [])
    (e₂ ∙ ap (λ (zs : List Cause). zs ++ r ∷ []) e₁)

-- the causes of a circle, and the remedy
pub causes-circle_then_remedy : (now items circle : List Hop) (r : Cause) (ts us : List Cause) → now ≡ items →
    items ≡ circle → ts ≡ reverse (map circle_cause now) → us ≡ ts ++ r ∷ [] →
    us ≡ reverse (map circle_cause circle) ++ r ∷ []
causes-circle_then_remedy now items circle r ts us e e' e₁ e₂ = e₂ ∙ ap (λ (zs : List Cause). zs ++ r ∷ [])
    (e₁ ∙ ap (λ (hs : List Hop). reverse (map circle_cause hs)) (e ∙ e'))

-- the hops that were found are the circle
pub hops_until-same_copy : (n : Net) (cs copies : List Copy) (lan : ℕ) (second got : Copy)
    (items : List Hop) → copies ≡ cs → got ≡ second → second.lan ≡ lan →
    items ≡ hops_until n copies got.lan (length copies) got.lan got.sender →
    items ≡ hops_until n cs lan (length cs) second.lan second.sender
hops_until-same_copy n cs copies lan second got items same one on e = e ∙
    (ap (λ (xs : List Copy). hops_until n xs got.lan (length xs) got.lan got.sender) same ∙
    (ap (λ (x : Copy). hops_until n cs x.lan (length cs) x.lan x.sender) one ∙
    ap (λ (l : ℕ). hops_until n cs l (length cs) second.lan second.sender) on))

-- the remedy is for this copy, on this LAN
pub is_remedy-same_copy : (n : Net) (f : Flight) (lan : ℕ) (second got : Copy) (r : Cause) → got ≡ second →
    second.lan ≡ lan → IsRemedy n f got.lan got r → IsRemedy n f lan second r
is_remedy-same_copy n f lan second got r one on out = subst (λ (l : ℕ). IsRemedy n f l second r) on
    (subst (λ (x : Copy). IsRemedy n f x.lan x r) one out)

-- the copy that was found is the second one
pub first_double-same_copy : (cs copies : List Copy) (second got : Copy) (o : Option Copy) → copies ≡ cs →
    o ≡ first_double [] copies → o ≡ Some got → first_double [] cs ≡ Some second → got ≡ second
first_double-same_copy cs copies second got o same e some found = copy_equal-from_some (first_double [] cs)
    got second
    (sym (e ∙ ap (λ (xs : List Copy). first_double [] xs) same) ∙ some) found
