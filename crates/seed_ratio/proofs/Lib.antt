mod Ratios
