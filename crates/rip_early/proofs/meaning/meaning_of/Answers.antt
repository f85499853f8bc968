use Rattle.std.proofs.Common.{ap, rules}
use Rattle.rip_early.specs.Indexed.{names_of}
use Rattle.rip_early.specs.Scopes.{meaning_in}
use Rattle.rip_early.specs.declared.context.Context.{Context}
use Rattle.rip_early.proofs.Making.{maker-there, maker-left, maker-scopes, passed}
use Rattle.rip_early.proofs.meaning.meaning_of.Goals as goal

pub loop-maker-init : goal.loop-maker-init
loop-maker-init c = record {
  there = maker-there c.args.tree.now c.requires.follow c.args.id _ (ap (λ (x : Context). x.maker) (c.requires.contexts.each c.args.id _ c.requires.there));
  means = ap (λ ss. meaning_in 0 ss c.args.name.now) (maker-scopes (names_of c.args.top.now) c.args.tree.now c.requires.follow c.args.id _ (ap (λ (x : Context). x.maker) (c.requires.contexts.each c.args.id _ c.requires.there)));
}

pub loop-maker-smaller : goal.loop-maker-smaller
loop-maker-smaller c = maker-left c.args.tree.now c.requires.follow c.in-Some.outer _ _ (ap (λ (x : Context). x.maker) (c.requires.contexts.each c.in-Some.outer _ (search rules))) c.in-Some.is

pub loop-maker-preserved : goal.loop-maker-preserved
loop-maker-preserved c = record {
  there = maker-there c.args.tree.now c.requires.follow c.in-Some.outer _ (ap (λ (x : Context). x.maker) (c.requires.contexts.each c.in-Some.outer _ (search rules)));
  means = passed (names_of c.args.top.now) c.args.tree.now c.requires.follow c.in-Some.outer c.loop-maker.up c.in-Past.next _ c.loop-maker.maker c.args.name.now _ c.in_ok-meaning.field-0
      c.in-Some.is c.in-Past.is c.in_ok-meaning.ensures c.loop-maker.invariant.means (ap (λ (x : Context). x.maker) (c.requires.contexts.each c.in-Some.outer _ (search rules)));
}
