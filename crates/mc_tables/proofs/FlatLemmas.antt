-- Lists of outgoing vifs, one after another, and one more list behind them.
use Rattle.std.proofs.Common.{◌≡◌, ◌+◌, ◌≤◌, List, [], ◌∷◌, ◌++◌, length, take, drop, refl, ap}
use Rattle.std.proofs.Common.{◌∙◌, arith}
use Rattle.std.specs.List.{AllByRecursion}
use Rattle.std.proofs.lemmas.List.{take-append-le, drop-append-le, map-append}
use Rattle.std.proofs.lemmas.List.{take_all, length-drop}
use Rattle.std.proofs.Math.Seq.{drop-append_seam}
use Rattle.mc_tables.specs.declared.cache.entry.Oif.{Oif}
use Rattle.mc_tables.specs.declared.cache.flat_oifs.FlatList.{FlatList}
use Rattle.mc_tables.specs.FlatRows.{list_of, lists_of, AreFlatLists}

-- a list stays as it is if more outgoing vifs come behind
list_of-append : {H : Type 0} (oifs more : List Oif) (l : FlatList H) → l.start + l.count ≤ length oifs
    → list_of (oifs ++ more) l ≡ list_of oifs l
list_of-append {H} oifs more l within =
    let list : List Oif → H × List Oif = λ own. (l.head, own) in
    ap (λ rest. list (take l.count rest)) (drop-append-le l.start oifs more (omega (arith, within)))
    ∙ ap list (take-append-le l.count (drop l.start oifs) more
    (let e = length-drop l.start oifs in omega (arith, within, e)))

lists_of-append : {H : Type 0} (ls : List (FlatList H)) (oifs more : List Oif)
    → AllByRecursion (λ (l : FlatList H). l.start + l.count ≤ length oifs) ls
    → lists_of ls (oifs ++ more) ≡ lists_of ls oifs
lists_of-append [] oifs more within = refl
lists_of-append (l ∷ ls) oifs more within =
    ap (λ own. own ∷ lists_of ls (oifs ++ more)) (list_of-append oifs more l within.0)
    ∙ ap (λ rest. list_of oifs l ∷ rest) (lists_of-append ls oifs more within.1)

-- the lists with one more
list_of-pushed : {H : Type 0} (oifs more : List Oif) (l : FlatList H) → l.start ≡ length oifs
    → l.count ≡ length more → list_of (oifs ++ more) l ≡ (l.head, more)
list_of-pushed {H} oifs more l start count =
    let list : List Oif → H × List Oif = λ own. (l.head, own) in
    rw (start, count) (ap (λ rest. list (take (length more) rest)) (drop-append_seam oifs more)
    ∙ ap list (take_all (length more) more (omega arith)))

pub lists_of_push : {H : Type 0} (ls : List (FlatList H)) (oifs more : List Oif) (l : FlatList H)
    → AreFlatLists ls oifs → l.start ≡ length oifs → l.count ≡ length more
    → lists_of (ls ++ l ∷ []) (oifs ++ more) ≡ lists_of ls oifs ++ (l.head, more) ∷ []
lists_of_push ls oifs more l flat start count =
    map-append (list_of (oifs ++ more)) ls (l ∷ [])
    ∙ ap (λ front. front ++ list_of (oifs ++ more) l ∷ []) (lists_of-append ls oifs more flat.within)
    ∙ ap (λ own. lists_of ls oifs ++ own ∷ []) (list_of-pushed oifs more l start count)
