-- `execute::perform::perform` meets its contract: the checks come in the order of the answers, then the operation is performed.
-- Assumes nothing.
use Rattle.std.specs.Prelude.{Ok}
use mathlib.Core.Path.{◌≡◌, sym}
use borrow.Author.Tests.{not-true, not-false}
use Rattle.encoding.specs.Codec.{decode_of}
use Rattle.encoding.proofs.RangeLaws.{decoded_in_range}
use Rattle.decoder.specs.Steps.{operation_in}
use Rattle.semantics.specs.declared.answer.Refusal.TheVariants.{Undecodable}
use Rattle.execute.proofs.PerformLaws.{word_refuses, streaming_off_lem, za_off_lem, performed}
use Rattle.execute.proofs.perform.perform.Goals.{In-Some}
use Rattle.execute.proofs.perform.perform.Goals as goal

-- what the word decodes to
means : (c : In-Some) → let a = c.args in decode_of a.word a.settings.level ≡ Ok (operation_in c.in-Some.class a.word)
means c = sym (rw c.in-Some.is at c.classify.ensures).equal

pub returns-in_default : goal.returns-in_default
returns-in_default c =
    let no_operation = (rw c.in_default.is at c.classify.ensures).equal in
    word_refuses c.args.settings c.args.word _ Undecodable c.requires (rw (← no_operation))

pub returns-then-not-settings : goal.returns-then-not-settings
returns-then-not-settings c =
    streaming_off_lem c.args.settings c.args.word _ _ c.requires (means (goal.at.returns-then-not-settings c).In-Some) (not-true _ c.if-not-settings.true)

pub returns-then-not-settings-2 : goal.returns-then-not-settings-2
returns-then-not-settings-2 c =
    za_off_lem c.args.settings c.args.word _ _ c.requires (means (goal.at.returns-then-not-settings-2 c).In-Some) (not-false _ c.if-not-settings.false) (not-true _ c.if-not-settings-2.true)

pub operate-requires : goal.operate-requires
operate-requires c =
    (c.requires, decoded_in_range c.args.word c.args.settings.level _ (means (goal.at.operate-requires c).In-Some))

pub returns : goal.returns
returns c =
    performed c.args.settings c.args.word _ _ c.requires (means (goal.at.returns c).In-Some) c.operate.result _ (not-false _ c.if-not-settings.false) (not-false _ c.if-not-settings-2.false) c.operate.ensures
