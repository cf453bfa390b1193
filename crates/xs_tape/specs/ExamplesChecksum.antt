-- CRC-32C, by the examples of RFC 3720, appendix B.4, and the check value of the catalogue of CRC algorithms.
use Rattle.std.specs.Prelude.{◌≡◌, ℕ, List, ◌∷◌, [], codes, replicate}
use Rattle.xs_tape.specs.Checksum.{crc32c}

abbrev pub ascending : List ℕ
ascending =
    0 ∷ 1 ∷ 2 ∷ 3 ∷ 4 ∷ 5 ∷ 6 ∷ 7 ∷ 8 ∷ 9 ∷ 10 ∷ 11 ∷ 12 ∷ 13 ∷ 14 ∷ 15 ∷ 16 ∷ 17 ∷ 18 ∷ 19 ∷ 20 ∷ 21 ∷ 22 ∷ 23
    ∷ 24 ∷ 25 ∷ 26 ∷ 27 ∷ 28 ∷ 29 ∷ 30 ∷ 31 ∷ []

pub record Checksums : Type 0 where
  -- 8A9136AA
  pub of_zeros : crc32c (replicate 32 0) ≡ 2324772522
  -- 62A8AB43
  pub of_ones : crc32c (replicate 32 255) ≡ 1655221059
  -- 46DD794E
  pub ascending_bytes : crc32c ascending ≡ 1188919630
  -- E3069283
  pub of_digits : crc32c (codes "123456789") ≡ 3808858755
