mod Acknowledging
