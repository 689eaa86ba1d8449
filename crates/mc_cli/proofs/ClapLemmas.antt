-- What clap finds in the words, for the program without `audit`.
use Rattle.std.proofs.Common.{◌≡◌, ℕ, Bool, true, false, List, [], ◌∷◌, refl, subst, ap, inl, inr, Ok}
use Rattle.std.proofs.Common.{Err, Result}
use Rattle.std.proofs.lemmas.Bool.{false≢true}
use Rattle.clap.specs.Faults.{fault_of, is_simple_and_free}
use Rattle.clap.specs.Kinds.{FailsBy, HasKind, Kinds}
use Rattle.clap.specs.Simple.{App, HasMatchesOf, app_of, is_simple, subcommand_rows_of}
use Rattle.clap.specs.Values.{kind_of}
use Rattle.clap.specs.declared.builder.command.Command.{Command}
use Rattle.clap.specs.declared.error.Error.{Error}
use Rattle.clap.specs.declared.error.kind.ErrorKind.TheVariants.{OutOfMemory}
use Rattle.clap.specs.declared.parser.matches.ArgMatches.{ArgMatches}
use Rattle.mc_cli.specs.Commands.{AreAcceptedByClap, IsCommand, commands, subcommand_in}

-- the program is one of which clap's exact clauses hold
is_simple-commands : is_simple commands ≡ true
is_simple-commands = refl

-- The program's commands are of the kind for which clap's own theorem holds: computed.
is_simple_and_free-commands : is_simple_and_free commands ≡ true
is_simple_and_free-commands = refl

-- so clap's matches have the command that it finds in the words
pub subcommand_rows_of-commands : (command : Command) (words : List (List ℕ)) (matches : ArgMatches)
    → IsCommand commands command
    → HasMatchesOf (app_of command) words matches → subcommand_rows_of matches ≡ subcommand_in words
subcommand_rows_of-commands command words matches is has =
    let P : App → Type 0 = λ app. HasMatchesOf app words matches in
    (subst P is.same has is_simple-commands).1

-- and its result fails exactly by the faults that the words have for these commands
FailsBy-commands : {T : Type 0} (command : Command) (words : List (List ℕ)) (result : Result T Error)
    → IsCommand commands command
    → (is_simple_and_free (app_of command) ≡ true → FailsBy (fault_of (app_of command) words) result)
    → FailsBy (fault_of commands words) result
FailsBy-commands {T} command words result is by =
    let P : App → Type 0 = λ app. is_simple_and_free app ≡ true → FailsBy (fault_of app words) result in
    subst P is.same by is_simple_and_free-commands

-- a success means that clap finds no fault in the words
pub AreAcceptedByClap-from_Ok : (command : Command) (words : List (List ℕ)) (matches : ArgMatches)
    → IsCommand commands command
    → (is_simple_and_free (app_of command) ≡ true → FailsBy (fault_of (app_of command) words) (Ok matches))
    → AreAcceptedByClap words
AreAcceptedByClap-from_Ok command words matches is by = FailsBy-commands command words (Ok matches) is by

-- whether no kind of fault is left
abbrev is_empty_kinds : Kinds → Bool
is_empty_kinds [] = true
is_empty_kinds (kind ∷ kinds) = false

-- an error of no kind that words have is that memory ran out
OutOfMemory-from_no_kind : (kinds : Kinds) (error : Error) → HasKind kinds error → kinds ≡ []
    → kind_of error ≡ OutOfMemory
OutOfMemory-from_no_kind [] error (inl memory) none = memory
OutOfMemory-from_no_kind [] error (inr among) none = absurd among
OutOfMemory-from_no_kind (kind ∷ kinds) error has none =
    absurd (false≢true (ap (λ (kinds : Kinds). is_empty_kinds kinds) none))

-- where clap accepts the words, an error is that memory ran out
pub OutOfMemory-from_clap_error : (T : Type 0) (command : Command) (words : List (List ℕ)) (error : Error)
    → IsCommand commands command
    → (is_simple_and_free (app_of command) ≡ true
    → FailsBy {T = T} (fault_of (app_of command) words) (Err error))
    → AreAcceptedByClap words → kind_of error ≡ OutOfMemory
OutOfMemory-from_clap_error T command words error is by none =
    OutOfMemory-from_no_kind (fault_of commands words) error
    (FailsBy-commands {T = T} command words (Err error) is by) none
