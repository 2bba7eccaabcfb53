-- The sample file, and the files of specs/Cases.antt, each as one computed fact.
use mathlib.Core.Path.{refl}
use Rattle.files.specs.Cases.{file_cases}
use Rattle.files.specs.Claims.{SampleFileClaim, FilesClaim}
use Rattle.files.proofs.Opened.{opened}

pub sample_file_claim : SampleFileClaim
unfolding opened
sample_file_claim = refl

pub files_claim : FilesClaim
unfolding opened file_cases
files_claim = refl
