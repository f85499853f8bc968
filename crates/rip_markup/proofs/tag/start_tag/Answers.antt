use Rattle.rip_markup.proofs.Tagging.{tag_stands}
use Rattle.rip_markup.proofs.tag.start_tag.Goals as goal

pub returns-clause-tag : goal.returns-clause-tag
returns-clause-tag c =
    tag_stands c.args.behind.now c.split_at.result.0.now c.split_at.result.1.now c.name_count.result c.in_ok-name.name c.as_slice.result.now c.in_ok-read.read.pairs c.in_ok-read.read.fault c.in_ok-read.read.against c.in_ok-read.read.place c.split_at-2.result.1.now c.tag_end-end.result c.as_slice-2.result.now c.tag_fault-fault.result c.has_solidus.result c.end_count.result c.requires.letter c.name_count.ensures.value c.split_at.ensures.front c.split_at.ensures.back c.in_ok-name.ensures c.as_slice.ensures c.in_ok-read.ensures.read c.split_at-2.ensures.back c.tag_end-end.ensures.value c.as_slice-2.ensures c.tag_fault-fault.ensures c.has_solidus.ensures c.end_count.ensures
