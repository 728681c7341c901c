-- `record::Begun::place_named` meets its contract: no more were declared than it looks through.
use Rattle.std.proofs.Common.{ap, ◌∙◌}
use Rattle.std.proofs.lemmas.List.{take_all}
use Rattle.filing.specs.Said.{naming}
use Rattle.filing.specs.Places.{place_of}
use Rattle.scene.proofs.record.Begun.place_named.Goals as goal

pub returns : goal.returns
returns c = c.place_of.ensures ∙ ap (λ declared. place_of (naming declared) c.args.identifier) (take_all 64 c.args.self.now.declared.now c.args.self.now.few)
