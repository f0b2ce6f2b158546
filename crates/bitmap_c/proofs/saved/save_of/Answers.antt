use Rattle.bitmap_c.specs.Reports.{ReportsBytes}
use Rattle.bitmap_c.proofs.Histories.{never_found}
use Rattle.bitmap_c.proofs.saved.save_of.Goals as goal

pub returns-in-Err-clause-log : goal.returns-in-Err-clause-log
unfolding ReportsBytes
returns-in-Err-clause-log g c = λ found. absurd (never_found c.in-Err.error _ _ c.save_refusal.ensures c.report_bytes-in-Err.ensures.0 found)

pub returns-in-Err-clause-ends : goal.returns-in-Err-clause-ends
unfolding ReportsBytes
returns-in-Err-clause-ends g c = λ found. absurd (never_found c.in-Err.error _ _ c.save_refusal.ensures c.report_bytes-in-Err.ensures.0 found)
