-- `log_report::put_sections` meets its contract.
use native.Mathlib.Omega.{arith}
use Rattle.log_lines.proofs.Laws.{then}
use Rattle.log_lines.specs.Text.{ascii}
use Rattle.log_report.specs.Texts.{sections_text}
use Rattle.log_report.proofs.Lengths.{section_short}
use Rattle.log_report.proofs.put_sections.Goals as goal

pub put_section-b-requires : goal.put_section-b-requires
put_section-b-requires c = omega (arith, c.put_section-a.ensures.place, c.put_section-a.auto.out, section_short (ascii "header") c.args.report.headers)

pub put_section-c-requires : goal.put_section-c-requires
put_section-c-requires c = omega (arith, c.put_section-a.ensures.place, c.put_section-a.auto.out, section_short (ascii "header") c.args.report.headers, c.put_section-b.ensures.place, c.put_section-b.auto.out, section_short (ascii "frame") c.args.report.frames)

pub put_section-d-requires : goal.put_section-d-requires
put_section-d-requires c = omega (arith, c.put_section-a.ensures.place, c.put_section-a.auto.out, section_short (ascii "header") c.args.report.headers, c.put_section-b.ensures.place, c.put_section-b.auto.out, section_short (ascii "frame") c.args.report.frames, c.put_section-c.ensures.place, c.put_section-c.auto.out, section_short (ascii "cycle") c.args.report.cycles)

pub put_section-requires : goal.put_section-requires
put_section-requires c = omega (arith, c.put_section-a.ensures.place, c.put_section-a.auto.out, section_short (ascii "header") c.args.report.headers, c.put_section-b.ensures.place, c.put_section-b.auto.out, section_short (ascii "frame") c.args.report.frames, c.put_section-c.ensures.place, c.put_section-c.auto.out, section_short (ascii "cycle") c.args.report.cycles, c.put_section-d.ensures.place, c.put_section-d.auto.out, section_short (ascii "refusal") c.args.report.refusals)

pub returns : goal.returns
unfolding sections_text
returns c = then (then (then (then c.put_section-a.ensures c.put_section-b.ensures) c.put_section-c.ensures) c.put_section-d.ensures) c.put_section.ensures
