use Rattle.std.proofs.Common.{subst}
use Rattle.std.specs.Prelude.{codes}
use Rattle.serde_json.specs.Find.{get}
use Rattle.serde_json.specs.View.{view, members_view}
use Rattle.rip_limits.specs.Limits.{default}
use Rattle.rip_limits.specs.declared.limits.Limits.{Limits}
use Rattle.rip_manifest.specs.Limits.{IsLimit}
use Rattle.rip_manifest.proofs.JsonLemmas.{as_object-some}
use Rattle.rip_manifest.proofs.limits.limits_of.Goals as goal

pub returns-clause-found : goal.returns-clause-found
returns-clause-found c =
    let value = view c.args.value.now in
    let same = c.greatest-greatest.ensures in
    record {
      members = members_view c.in_ok-as_object.field-0.now.entries;
      are = as_object-some _ _ c.in_ok-as_object.ensures;
      known = c.name_limits.ensures.0 c.if-not-name_limits.false;
      fuel = subst (λ (most : Limits). IsLimit (get (codes "fuel") value) default.fuel most.fuel c.in_ok-limit.field-0) same c.in_ok-limit.ensures.found;
      cells = subst (λ (most : Limits). IsLimit (get (codes "cells") value) default.cells most.cells c.in_ok-short_limit.field-0) same c.in_ok-short_limit.ensures.found;
      units = subst (λ (most : Limits). IsLimit (get (codes "units") value) default.units most.units c.in_ok-short_limit-2.field-0) same c.in_ok-short_limit-2.ensures.found;
      nodes = subst (λ (most : Limits). IsLimit (get (codes "nodes") value) default.nodes most.nodes c.in_ok-short_limit-3.field-0) same c.in_ok-short_limit-3.ensures.found;
      depth = subst (λ (most : Limits). IsLimit (get (codes "depth") value) default.depth most.depth c.in_ok-short_limit-4.field-0) same c.in_ok-short_limit-4.ensures.found;
      queue = subst (λ (most : Limits). IsLimit (get (codes "queue") value) default.queue most.queue c.in_ok-short_limit-5.field-0) same c.in_ok-short_limit-5.ensures.found;
      sessions = subst (λ (most : Limits). IsLimit (get (codes "sessions") value) default.sessions most.sessions c.in_ok-short_limit-6.field-0) same c.in_ok-short_limit-6.ensures.found;
      text = subst (λ (most : Limits). IsLimit (get (codes "text") value) default.text most.text c.in_ok-short_limit-7.field-0) same c.in_ok-short_limit-7.ensures.found;
      replies = subst (λ (most : Limits). IsLimit (get (codes "replies") value) default.replies most.replies c.in_ok-short_limit-8.field-0) same c.in_ok-short_limit-8.ensures.found;
    }
