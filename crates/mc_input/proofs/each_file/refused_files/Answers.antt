use Rattle.std.proofs.Common.{List, ℕ, map}
use denote.Ref.{Bor}
use Rattle.mc_input.specs.RefusedFiles.{as_judged_file}
use Rattle.mc_input.proofs.RefusedLemmas.{refused_files_of-exact}
use Rattle.mc_input.proofs.each_file.refused_files.Goals as goal

-- Where every file that is listed as unread is missing, each file was judged by its own fault.
pub returns-clause-exact : goal.returns-clause-exact
returns-clause-exact g c = λ contents is.
    refused_files_of-exact (map (λ (n : Bor (List ℕ)). n.now) c.args.without.now) contents
    (map as_judged_file c.judge_all_files.new.refused.items)
    (c.in_ok-judge_all_files.ensures.refused contents is)
