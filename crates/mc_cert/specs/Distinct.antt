-- The distinct trees of a certificate's flows, and the number that each flow's tree has among them.
use Rattle.std.specs.Prelude.{ℕ, ◌==◌, ◌&&◌, Bool, List, [], ◌∷◌, ◌++◌, fold, position, Option}
use Rattle.std.specs.Prelude.{is_some, unwrap_or, if◌then◌else◌}
use Rattle.std.specs.Option.{option_eq}
use Rattle.std.specs.Cmp.Lexicographic.{pointwise}
use Rattle.mc_theory.specs.Nets.{Interface}
use Rattle.mc_theory.specs.Certificates.{Entry}
use Rattle.mc_cert.specs.Certificate.{Tree}

-- whether two interfaces are equal
abbrev pub same_interface : Interface → Interface → Bool
same_interface first second = first.0 == second.0 && first.1 == second.1

-- whether two entries are equal
abbrev pub same_entry : Entry → Entry → Bool
same_entry first second =
    first.lan == second.lan && (first.rank == second.rank && (first.need == second.need
    && option_eq same_interface first.forwarder second.forwarder))

-- whether two trees are equal, entry by entry in order
abbrev pub same_tree : Tree → Tree → Bool
same_tree = pointwise same_entry

-- the number of a tree among trees, counted from 0, if it is one of them
abbrev pub find_tree : List Tree → Tree → Option ℕ
find_tree trees tree = position (same_tree tree) trees

-- the trees, and after them one more if it is none of them
abbrev pub with_tree : List Tree → Tree → List Tree
with_tree trees tree = if is_some (find_tree trees tree) then trees else trees ++ tree ∷ []

-- the distinct ones of the flows' trees, in the order of first use
abbrev pub distinct_trees : List Tree → List Tree
distinct_trees = fold with_tree []

-- the number of a tree among these trees; 0 if it is none of them
abbrev pub tree_number_of : List Tree → Tree → ℕ
tree_number_of trees tree = unwrap_or (find_tree trees tree) 0
