use Rattle.quadratic.proofs.triangle.+fill_rows.Given as goal

abbrev pub decreases-fill_rows : goal.decreases-fill_rows
decreases-fill_rows g l = l.left
