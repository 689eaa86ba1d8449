use Rattle.std.proofs.Common.{◌≡◌, Some, None, arith}
use Rattle.json.specs.Json.{read_key}
use Rattle.json.proofs.Grammar.{read_key-shorter}
use Rattle.serde_json.specs.Data.{put}
use Rattle.mc_cert.specs.Keys.{key_name}
use Rattle.mc_cert.proofs.TokenLemmas.{shorter-from_Reads, ObjectSoFar-more, Reads-object}
use Rattle.mc_cert.proofs.tokens.object.read_object.Goals as goal

-- A key and its value have at least two tokens, so that fewer are left.
pub members-smaller : goal.members-smaller
members-smaller g c =
    let (d, reads, _) = c.in_ok-fields.ensures in
    let key : read_key c.members.reader ≡ Some (Some (key_name c.in-Some.key), c.next_key.new.self) =
    grind arith in
    omega (
      arith,
      shorter-from_Reads g.F.Fields.levels c.next_key.new.self d c.read_field.new.reader reads,
      read_key-shorter c.members.reader (Some (key_name c.in-Some.key)) c.next_key.new.self key,
    )

-- The value goes under its key in the members, in place of an earlier one, as it does in the fields.
pub members-preserved : goal.members-preserved
members-preserved g c =
    let (ms, so_far, holds) = c.members.invariant in
    let (d, reads, step) = c.in_ok-fields.ensures in
    let key : read_key c.members.reader ≡ Some (Some (key_name c.in-Some.key), c.next_key.new.self) =
    grind arith
    in (
      put (key_name c.in-Some.key) d ms,
      ObjectSoFar-more g.F.Fields.levels c.open_object.new.self ms (key_name c.in-Some.key) c.members.reader
          c.next_key.new.self c.read_field.new.reader d so_far key reads,
      step ms holds,
    )

-- The closing brace ends the object, whose members are those that were read.
pub returns : goal.returns
returns g c =
    let (ms, so_far, holds) = c.members.invariant in
    let over : read_key c.members.reader ≡ Some (None, c.next_key.new.self) = grind arith in (
      ms,
      Reads-object g.F.Fields.levels c.args.reader.now c.open_object.new.self ms c.members.reader
          c.next_key.new.self c.in_ok-open_object.ensures so_far over,
      holds,
    )
