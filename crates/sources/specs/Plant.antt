-- The process image and the certificates joined.
use Rattle.std.specs.Prelude.{ℕ, ◌-◌, cond, nat_lt, Option}
use Rattle.sources.specs.declared.source.Standing.{Standing}
use Rattle.sources.specs.declared.joined.Joined.{Joined}
use Rattle.sources.specs.declared.image.ProcessImage.{ProcessImage}
use Rattle.sources.specs.declared.certificates.Certificates.{Certificates}
use Rattle.sources.specs.Image.{image_rows, image_stands}
use Rattle.sources.specs.Certificates.{certificate_rows, today_of, certificates_stand}

abbrev pub plant_stands : Joined ProcessImage Certificates → ℕ → Option Standing
plant_stands s n =
    cond (nat_lt n s.split) (image_stands (image_rows s.first) n) (certificates_stand (today_of s.second) (certificate_rows s.second) (n - s.split))
